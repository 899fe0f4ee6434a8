-- What is read behind the model.
use Rattle.std.proofs.Common.{◌≡◌, ℕ, suc, ◌<◌, ℤ, List, [], ◌∷◌, ◌++◌, length, Bool, true, false, Option, Some, None, refl, ap, sym, ◌∙◌, arith, codes}
use Rattle.std.specs.Prelude.{is_some}
use Rattle.std.specs.List.{AllByRecursion}
use Rattle.std.proofs.lemmas.List.{length-map}
use Rattle.sp_theory.specs.Points.{count_of}
use Rattle.sp_theory.specs.Book as book
use Rattle.sp_theory.specs.Logs as logs
use Rattle.sp_model.specs.declared.parts.Parts.{Parts}
use Rattle.sp_model.specs.declared.beliefs.Sample.{Sample}
use Rattle.sp_model.specs.Problem.{sizes_of}
use Rattle.sp_model.specs.Kept.{IsModel}
use Rattle.sp_value.specs.declared.events.Event.{Event}
use Rattle.sp_value.specs.declared.tasks.Explore.{Explore}
use Rattle.sp_value.specs.declared.tasks.Explore.TheVariants.{Uniform, Sweep}
use Rattle.sp_value.specs.declared.tasks.Options.{Options}
use Rattle.sp_value.specs.Events.{events_of}
use Rattle.sp_session.specs.declared.logs.SessionLog.{SessionLog}
use Rattle.sp_session.specs.Logs.{logs_of}
use Rattle.sp_lines.specs.Lines.{numbers_behind_spaces, lines_of, Lacks}
use Rattle.sp_planfile.specs.Contents.{moves_of, move_of}
use Rattle.sp_planfile.specs.PlanText.{options_line, explore_word, prune_word, belief_line, events_section, values_text}
use Rattle.sp_planfile.specs.Form.{AreInRange, AreValuesOfEditions, IsParentMove, IsEventInForm, IsEntryInForm, IsLogInForm, edition_count}
use Rattle.sp_planfile.proofs.Sections.{lacks-append}
use Rattle.sp_planfile.proofs.Unique.{spaced_lacks, letters}
use Rattle.sp_filed.specs.declared.sizes.Sizes.{Sizes}
use Rattle.sp_filed.specs.Stops.{IsLogOf}
use Rattle.sp_filed.specs.Tails.{AreVersionValues, IsReadBehindOptions, IsReadBehindModel, sizes_for}

explore_lacks : (x : Explore) → Lacks 10 (explore_word x)
explore_lacks Uniform = letters (codes " uniform") (omega arith, (omega arith, (omega arith, (omega arith, (omega arith, (omega arith, (omega arith, (omega arith, tt))))))))
explore_lacks Sweep = letters (codes " sweep") (omega arith, (omega arith, (omega arith, (omega arith, (omega arith, (omega arith, tt))))))

prune_lacks : (x : Bool) → Lacks 10 (prune_word x)
prune_lacks true = letters (codes " yes") (omega arith, (omega arith, (omega arith, (omega arith, tt))))
prune_lacks false = letters (codes " no") (omega arith, (omega arith, (omega arith, tt)))

pub options_lacks : (o : Options) → AreInRange o → Lacks 10 (options_line o)
options_lacks o good =
    lacks-append 10 (codes "options") (numbers_behind_spaces (o.beliefs ∷ o.depth ∷ o.stages ∷ o.seed ∷ []) ++ (explore_word o.explore ++ prune_word o.prune))
    (letters (codes "options") (omega arith, (omega arith, (omega arith, (omega arith, (omega arith, (omega arith, (omega arith, tt))))))))
    (lacks-append 10 (numbers_behind_spaces (o.beliefs ∷ o.depth ∷ o.stages ∷ o.seed ∷ [])) (explore_word o.explore ++ prune_word o.prune)
    (spaced_lacks (o.beliefs ∷ o.depth ∷ o.stages ∷ o.seed ∷ []) (omega (arith, good.few_beliefs), (omega (arith, good.few_depth), (omega (arith, good.few_stages), (good.seed, tt)))))
    (lacks-append 10 (explore_word o.explore) (prune_word o.prune) (explore_lacks o.explore) (prune_lacks o.prune)))

all_first : {X : Type 0} (P Q : X → Type 0) (xs : List X) → AllByRecursion (λ x. P x × Q x) xs → AllByRecursion P xs
all_first P Q [] all = tt
all_first P Q (x ∷ xs) all = (all.0.0, all_first P Q xs all.1)

logs_in_form : (s : Sizes) (ls : List logs.Log) → AllByRecursion (IsLogOf s) ls → AllByRecursion (IsLogInForm s.actions s.joint) ls
logs_in_form s [] all = tt
logs_in_form s (log ∷ ls) all = (record { name = all.0.name; entries = all_first (IsEntryInForm s.actions s.joint) _ log.entries all.0.entries }, logs_in_form s ls all.1)

pub moves_count : (xs : List Sample) → 0 < length xs → suc (length (moves_of xs)) ≡ length xs
moves_count [] some = absurd (omega (arith, some))
moves_count (x ∷ xs) some = ap suc (length-map xs move_of)

version_is : (has_values : Bool) (editions : ℕ) (values : Option (List ℤ)) → AreVersionValues has_values editions values → is_some values ≡ has_values
version_is has_values editions None is = sym is
version_is has_values editions (Some values) is = sym is.0

values_in_form : (has_values : Bool) (events : List book.Event) (values : Option (List ℤ)) → AreVersionValues has_values (suc (edition_count events)) values → AreValuesOfEditions events values
values_in_form has_values events None is = tt
values_in_form has_values events (Some values) is = (is.1, is.2, is.3)

pub read_model : (has_values : Bool) (p : Parts) (o : Options) (text rest : List ℕ) (xs : List Sample) (events : List Event) (values : Option (List ℤ)) (transcript : List SessionLog)
    → IsModel p → AreInRange o → text ≡ options_line o ++ (10 ∷ rest) → IsReadBehindOptions has_values p o rest xs (events_of events) values (logs_of transcript)
    → IsReadBehindModel has_values p text (record { model = p; samples = record { list = xs; depth = o.depth }; options = o }) events values transcript
read_model has_values p o text rest xs events values transcript known good is read =
    let moves = read.behind in
    let tail = moves.behind in
    record {
      task = record {
        model = known;
        some_beliefs = good.some_beliefs;
        few_beliefs = good.few_beliefs;
        some_depth = good.some_depth;
        few_depth = good.few_depth;
        some_stages = good.some_stages;
        few_stages = good.few_stages;
        count = read.count;
        depth = refl;
        scopes = read.sampled.scopes;
        sampled = read.sampled.of_model;
      };
      model = refl;
      is = is ∙ ap (λ l. options_line o ++ (10 ∷ l)) (read.is ∙ ap (λ l. lines_of belief_line (moves_of xs) ++ l) (moves.is ∙ ap (λ l. events_section (events_of events) ++ l) (tail.is ∙ ap (λ l. values_text values ++ l) tail.logs.is)));
      version = version_is has_values (suc (edition_count (events_of events))) values tail.values;
      form = λ body lines. record {
        few_actions = omega (arith, known.few_actions);
        few_joint = omega (arith, known.few_joint);
        model = lines;
        options = good;
        move_count = moves_count xs (omega (arith, read.count, good.some_beliefs)) ∙ read.count;
        moves = all_first (IsParentMove (length p.actions) (count_of (sizes_of p.sights))) _ (moves_of xs) read.sampled.moves;
        event_count = moves.count;
        events = all_first (IsEventInForm o.beliefs (length p.actions) (count_of (sizes_of p.sights))) _ (events_of events) moves.good;
        values = values_in_form has_values (events_of events) values tail.values;
        log_count = tail.logs.count;
        logs = logs_in_form (sizes_for p o) (logs_of transcript) tail.logs.good.each;
        names = tail.logs.good.different;
      };
    }
