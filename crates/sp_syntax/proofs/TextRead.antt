-- Reading a text takes what the machine takes, and gives a text of the grammar.
use Rattle.std.proofs.Common.{◌≡◌, ℕ, zero, suc, ◌<◌, ◌≤◌, List, [], ◌∷◌, ◌++◌, length, true, Some, Result, Ok, Err, refl, sym, ap, ◌∙◌, subst, append_assoc, append-nil, arith}
use Rattle.std.specs.Prelude.{⊤}
use Rattle.sp_lex.specs.declared.lexeme.Span.{Span}
use Rattle.sp_syntax.specs.declared.class.WordClass.{WordClass}
use Rattle.sp_syntax.specs.declared.class.WordClass.TheVariants as word
use Rattle.sp_syntax.specs.declared.class.TokenClass.{TokenClass}
use Rattle.sp_syntax.specs.declared.class.TokenClass.TheVariants as class
use Rattle.sp_syntax.specs.declared.class.Classed.{Classed}
use Rattle.sp_syntax.specs.declared.text.Tree.{Tree}
use Rattle.sp_syntax.specs.declared.text.Declaration.{Declaration}
use Rattle.sp_syntax.specs.declared.text.Observed.{Observed}
use Rattle.sp_syntax.specs.declared.text.Item.{Item}
use Rattle.sp_syntax.specs.declared.text.Section.{Section}
use Rattle.sp_syntax.specs.declared.text.Section.TheVariants as section
use Rattle.sp_syntax.specs.Fault.{Fault}
use Rattle.sp_syntax.specs.Grammar.{IsA, IsKeyword, IsName, IsWord, IsTree, AreAll, IsValue, IsDeclaration, declaration, AreDeclarations, declarations, IsObserved, observed, IsItem, variable, observe, cost, IsSection, init, dd, action, reward, discount, horizon, tolerance, IsText, text}
use Rattle.sp_syntax.specs.Reading as spec
use Rattle.sp_syntax.specs.Reading.{Read, head_class, ◌>>=◌, is_open, is_close, is_word, is_name, is_variables, is_observations, is_end_dd, is_end_action, is_end_observe, is_empty, one_of, many, several}
use Rattle.sp_syntax.specs.Refusal.{leave}
use Rattle.sp_syntax.proofs.Machine.{Sym, AnOpen, AName, AWord, AVariables, AnObservations, AnEndDd, ATree, ADeclaration, MoreDeclarations, MoreValues, AnObserved, MoreObserved, AnItem, MoreItems, start, run}
use Rattle.sp_syntax.proofs.Good.{Good, on, same, done, mapped, entered, under, taken, behind, token_good, Lists, lists, many_good, several_good, then_one, then_several, then_many}
use Rattle.sp_syntax.proofs.Tokens.{close_means, end_action_means, end_observe_means, end_dd_means, name_means, opened, closed, kept_word, open_reads, word_reads, name_reads, variables_reads, observations_reads, end_dd_reads}
use Rattle.sp_syntax.proofs.TreesRead.{tok, tree_good}

kept_name : (left : ℕ) (c : TokenClass) → is_name (Some c) ≡ true → leave left c ≡ Some left
kept_name left c e = ap (leave left) (name_means c e)

-- ---- declarations

declaration_start : (end a : ℕ) (ss : List Sym) (ts : List Classed) → run end a (ADeclaration ∷ ss) ts ≡ run end a (AnOpen ∷ AName ∷ AWord ∷ MoreValues ∷ ss) ts
declaration_start end a ss [] = refl
declaration_start end a ss (t ∷ ts) = by t.class t.span
  where
    by : (c : TokenClass) (s : Span) → run end a (ADeclaration ∷ ss) (tok c s ∷ ts) ≡ run end a (AnOpen ∷ AName ∷ AWord ∷ MoreValues ∷ ss) (tok c s ∷ ts)
    by class.Open s = refl
    by _ s = refl

pub value_some : (s : Span) → IsValue s [] → ⊥
value_some s (w, hw, es, e) = cc

values_list : (end left : ℕ) → Lists IsValue (IsA class.Close) is_close (one_of is_word end) AWord MoreValues end left (suc left)
values_list end left = lists IsValue (IsA class.Close) is_close (one_of is_word end) AWord MoreValues end left (suc left) (λ c. refl) (λ ss c. refl) (λ ss c. refl) (closed left) refl (λ t e. close_means t.class e)
    (λ us. token_good AWord is_word IsWord word_reads end left left (kept_word left) us) value_some

declaration_good : (end l : ℕ) (ts : List Classed) → Good IsDeclaration end (suc l) (on ADeclaration) (suc l) same (spec.declaration end ts) ts
unfolding spec.declaration
declaration_good end l ts =
    entered IsDeclaration end (suc l) (on ADeclaration) (λ ss. AnOpen ∷ AName ∷ AWord ∷ MoreValues ∷ ss) (suc l) same _ ts (λ ss. declaration_start end (suc l) ss ts)
    (then_one IsDeclaration end (suc l) (λ ss. AnOpen ∷ AName ∷ AWord ∷ MoreValues ∷ ss) l (λ ss. AName ∷ AWord ∷ MoreValues ∷ ss) (suc l) same ts (IsA class.Open) (one_of is_open end ts) _
    (under _ end (suc l) (on AnOpen) l same (λ ss. AName ∷ AWord ∷ MoreValues ∷ ss) _ ts (token_good AnOpen is_open (IsA class.Open) open_reads end (suc l) l (opened l) ts)) (λ a us1 ha.
    then_one (λ d v. IsDeclaration d (a ∷ v)) end l (λ ss. AName ∷ AWord ∷ MoreValues ∷ ss) l (λ ss. AWord ∷ MoreValues ∷ ss) (suc l) same us1 IsName (one_of is_name end us1) _
    (under _ end l (on AName) l same (λ ss. AWord ∷ MoreValues ∷ ss) _ us1 (token_good AName is_name IsName name_reads end l l (kept_name l) us1)) (λ n us2 hn.
    then_several (λ d v. IsDeclaration d (a ∷ n ∷ v)) end l (λ ss. AWord ∷ MoreValues ∷ ss) (suc l) same (suc l) same us2 IsValue (IsA class.Close) (several is_close (one_of is_word end) end us2) _
    (several_good IsValue (IsA class.Close) is_close (one_of is_word end) AWord MoreValues end l (suc l) (values_list end l) us2) (λ first more vs us3 b hx hb.
    done (λ d v. IsDeclaration d (a ∷ n ∷ (vs ++ (b ∷ v)))) end (suc l) same _ us3 (declaration a n b first more vs ha hn hx hb refl refl)))))

pub declaration_some : (d : Declaration) → IsDeclaration d [] → ⊥
declaration_some d (declaration a n b first more us ha hn hx hb ed e) = cc

declarations_list : (end l : ℕ) → Lists IsDeclaration (IsA class.Close) is_close (spec.declaration end) ADeclaration MoreDeclarations end (suc l) (suc (suc l))
declarations_list end l = lists IsDeclaration (IsA class.Close) is_close (spec.declaration end) ADeclaration MoreDeclarations end (suc l) (suc (suc l)) (λ c. refl) (λ ss c. refl) (λ ss c. refl) (closed (suc l)) refl (λ t e. close_means t.class e)
    (declaration_good end l) declaration_some

declarations_good : (end l : ℕ) (k : WordClass) (a w : Classed) → IsA class.Open a → IsKeyword k w → (ts : List Classed)
    → Good (λ d v. AreDeclarations k d (a ∷ w ∷ v)) end (suc l) (λ ss. ADeclaration ∷ MoreDeclarations ∷ ss) (suc (suc l)) same (spec.declarations end a.span w.span ts) ts
unfolding spec.declarations
declarations_good end l k a w ha hw ts =
    then_several (λ d v. AreDeclarations k d (a ∷ w ∷ v)) end (suc l) (λ ss. ADeclaration ∷ MoreDeclarations ∷ ss) (suc (suc l)) same (suc (suc l)) same ts IsDeclaration (IsA class.Close) (several is_close (spec.declaration end) end ts) _
    (several_good IsDeclaration (IsA class.Close) is_close (spec.declaration end) ADeclaration MoreDeclarations end (suc l) (suc (suc l)) (declarations_list end l) ts) (λ first more vs us b hx hb.
    done (λ d v. AreDeclarations k d (a ∷ w ∷ (vs ++ (b ∷ v)))) end (suc (suc l)) same _ us (declarations a w b first more vs ha hw hx hb refl refl))

-- ---- items

observed_start : (end a : ℕ) (ss : List Sym) (ts : List Classed) → run end a (AnObserved ∷ ss) ts ≡ run end a (AName ∷ ATree ∷ ss) ts
observed_start end a ss [] = refl
observed_start end a ss (t ∷ ts) = by t.class t.span
  where
    by : (c : TokenClass) (s : Span) → run end a (AnObserved ∷ ss) (tok c s ∷ ts) ≡ run end a (AName ∷ ATree ∷ ss) (tok c s ∷ ts)
    by (class.Word word.Name) s = refl
    by _ s = refl

observed_good : (end left : ℕ) (ts : List Classed) → Good IsObserved end left (on AnObserved) left same (spec.observe_entry end left ts) ts
unfolding spec.observe_entry
observed_good end left ts =
    entered IsObserved end left (on AnObserved) (λ ss. AName ∷ ATree ∷ ss) left same _ ts (λ ss. observed_start end left ss ts)
    (then_one IsObserved end left (λ ss. AName ∷ ATree ∷ ss) left (on ATree) left same ts IsName (one_of is_name end ts) _
    (under _ end left (on AName) left same (on ATree) _ ts (token_good AName is_name IsName name_reads end left left (kept_name left) ts)) (λ n us1 hn.
    behind IsTree (λ o v. IsObserved o (n ∷ v)) end left (on ATree) left same left same us1 (spec.tree_at end left us1) _ (tree_good end left us1) (λ t us2 used ht e2.
    done (λ o v. IsObserved o (n ∷ (used ++ v))) end left same _ us2 (observed n t used hn ht refl (ap (λ z. n ∷ z) (append-nil used))))))

pub observed_some : (o : Observed) → IsObserved o [] → ⊥
observed_some o (observed n t us hn ht eo e) = cc

kept_end_observe : (left : ℕ) (c : TokenClass) → is_end_observe (Some c) ≡ true → leave left c ≡ Some left
kept_end_observe left c e = ap (leave left) (end_observe_means c e)

kept_end_action : (left : ℕ) (c : TokenClass) → is_end_action (Some c) ≡ true → leave left c ≡ Some left
kept_end_action left c e = ap (leave left) (end_action_means c e)

observed_list : (end left : ℕ) → Lists IsObserved (IsKeyword word.EndObserve) is_end_observe (spec.observe_entry end left) AnObserved MoreObserved end left left
observed_list end left = lists IsObserved (IsKeyword word.EndObserve) is_end_observe (spec.observe_entry end left) AnObserved MoreObserved end left left (λ c. refl) (λ ss c. refl) (λ ss c. refl) (kept_end_observe left) refl (λ t e. end_observe_means t.class e)
    (observed_good end left) observed_some

item_at : (end left : ℕ) (c : TokenClass) (s : Span) (ts : List Classed) → Good IsItem end left (on AnItem) left same (spec.item_on end left (Some c) (tok c s ∷ ts)) (tok c s ∷ ts)
item_at end left (class.Word word.Name) s ts =
    let n : Classed = tok (class.Word word.Name) s in
    taken IsItem end left (on AnItem) left (on ATree) left same n _ ts (λ ss. refl)
    (behind IsTree (λ i v. IsItem i (n ∷ v)) end left (on ATree) left same left same ts (spec.tree_at end left ts) _ (tree_good end left ts) (λ t us used ht e.
    done (λ i v. IsItem i (n ∷ (used ++ v))) end left same _ us (variable n t used refl ht refl (ap (λ z. n ∷ z) (append-nil used)))))
item_at end left (class.Word word.Observe) s ts =
    let k : Classed = tok (class.Word word.Observe) s in
    taken IsItem end left (on AnItem) left (on MoreObserved) left same k _ ts (λ ss. refl)
    (then_many (λ i v. IsItem i (k ∷ v)) end left (on MoreObserved) left same left same ts IsObserved (IsKeyword word.EndObserve) (many is_end_observe (spec.observe_entry end left) end (length ts) [] ts) _
    (many_good IsObserved (IsKeyword word.EndObserve) is_end_observe (spec.observe_entry end left) AnObserved MoreObserved end left left (observed_list end left) (length ts) [] ts (omega arith)) (λ xs vs us b hx hb.
    done (λ i v. IsItem i (k ∷ (vs ++ (b ∷ v)))) end left same _ us (observe k b xs vs refl hx hb refl refl)))
item_at end left (class.Word word.Cost) s ts =
    let k : Classed = tok (class.Word word.Cost) s in
    taken IsItem end left (on AnItem) left (on ATree) left same k _ ts (λ ss. refl)
    (behind IsTree (λ i v. IsItem i (k ∷ v)) end left (on ATree) left same left same ts (spec.tree_at end left ts) _ (tree_good end left ts) (λ t us used ht e.
    done (λ i v. IsItem i (k ∷ (used ++ v))) end left same _ us (cost k t used refl ht refl (ap (λ z. k ∷ z) (append-nil used)))))
item_at end left _ s ts = λ ss. refl

item_good : (end left : ℕ) (ts : List Classed) → Good IsItem end left (on AnItem) left same (spec.item_at end left ts) ts
unfolding spec.item_at
item_good end left [] = λ ss. refl
item_good end left (t ∷ ts) = item_at end left t.class t.span ts

pub item_some : (i : Item) → IsItem i [] → ⊥
item_some i (variable n t us hn ht ei e) = cc
item_some i (observe k b list us hk hx hb ei e) = cc
item_some i (cost k t us hk ht ei e) = cc

items_list : (end left : ℕ) → Lists IsItem (IsKeyword word.EndAction) is_end_action (spec.item_at end left) AnItem MoreItems end left left
items_list end left = lists IsItem (IsKeyword word.EndAction) is_end_action (spec.item_at end left) AnItem MoreItems end left left (λ c. refl) (λ ss c. refl) (λ ss c. refl) (kept_end_action left) refl (λ t e. end_action_means t.class e)
    (item_good end left) item_some

-- ---- sections

-- a section's place
abbrev pub place : List Sym → List Sym
place ss = []

kept_end_dd : (left : ℕ) (c : TokenClass) → is_end_dd (Some c) ≡ true → leave left c ≡ Some left
kept_end_dd left c e = ap (leave left) (end_dd_means c e)

module _ (end left : ℕ) where
  action_good : (k : Classed) → IsKeyword word.Action k → (ts : List Classed) → Good (λ s v. IsSection s (k ∷ v)) end left (λ ss. AName ∷ MoreItems ∷ []) left place (spec.action end left k.span ts) ts
  unfolding spec.action
  action_good k hk ts =
      then_one (λ s v. IsSection s (k ∷ v)) end left (λ ss. AName ∷ MoreItems ∷ []) left (λ ss. MoreItems ∷ []) left place ts IsName (one_of is_name end ts) _
      (under _ end left (on AName) left same (λ ss. MoreItems ∷ []) _ ts (token_good AName is_name IsName name_reads end left left (kept_name left) ts)) (λ n us1 hn.
      then_many (λ s v. IsSection s (k ∷ n ∷ v)) end left (λ ss. MoreItems ∷ []) left place left place us1 IsItem (IsKeyword word.EndAction) (many is_end_action (spec.item_at end left) end (length us1) [] us1) _
      (under _ end left (on MoreItems) left same place _ us1 (many_good IsItem (IsKeyword word.EndAction) is_end_action (spec.item_at end left) AnItem MoreItems end left left (items_list end left) (length us1) [] us1 (omega arith))) (λ xs vs us b hx hb.
      done (λ s v. IsSection s (k ∷ n ∷ (vs ++ (b ∷ v)))) end left place _ us (action k n b xs vs hk hn hx hb refl refl)))

  dd_good : (k : Classed) → IsKeyword word.Dd k → (ts : List Classed) → Good (λ s v. IsSection s (k ∷ v)) end left (λ ss. AName ∷ ATree ∷ AnEndDd ∷ []) left place (spec.dd end left k.span ts) ts
  unfolding spec.dd
  dd_good k hk ts =
      then_one (λ s v. IsSection s (k ∷ v)) end left (λ ss. AName ∷ ATree ∷ AnEndDd ∷ []) left (λ ss. ATree ∷ AnEndDd ∷ []) left place ts IsName (one_of is_name end ts) _
      (under _ end left (on AName) left same (λ ss. ATree ∷ AnEndDd ∷ []) _ ts (token_good AName is_name IsName name_reads end left left (kept_name left) ts)) (λ n us1 hn.
      behind IsTree (λ s v. IsSection s (k ∷ n ∷ v)) end left (λ ss. ATree ∷ AnEndDd ∷ []) left (λ ss. AnEndDd ∷ []) left place us1 (spec.tree_at end left us1) _
      (under _ end left (on ATree) left same (λ ss. AnEndDd ∷ []) _ us1 (tree_good end left us1)) (λ t us2 used ht e2.
      then_one (λ s v. IsSection s (k ∷ n ∷ (used ++ v))) end left (λ ss. AnEndDd ∷ []) left place left place us2 (IsKeyword word.EndDd) (one_of is_end_dd end us2) _
      (under _ end left (on AnEndDd) left same place _ us2 (token_good AnEndDd is_end_dd (IsKeyword word.EndDd) end_dd_reads end left left (kept_end_dd left) us2)) (λ b us3 hb.
      done (λ s v. IsSection s (k ∷ n ∷ (used ++ (b ∷ v)))) end left place _ us3 (dd k n b t used hk hn ht hb refl refl))))

  tree_section : (k : Classed) (make : Tree → Section) → ((t : Tree) (us : List Classed) → IsTree t us → IsSection (make t) (k ∷ us)) → (ts : List Classed)
      → Good (λ s v. IsSection s (k ∷ v)) end left (λ ss. ATree ∷ []) left place (spec.tree_at end left ts >>= λ t. Ok (make t.0, t.1)) ts
  tree_section k make is ts =
      behind IsTree (λ s v. IsSection s (k ∷ v)) end left (λ ss. ATree ∷ []) left place left place ts (spec.tree_at end left ts) _
      (under _ end left (on ATree) left same place _ ts (tree_good end left ts)) (λ t us used ht e.
      done (λ s v. IsSection s (k ∷ (used ++ v))) end left place _ us (subst (λ z. IsSection (make t) (k ∷ z)) (sym (append-nil used)) (is t used ht)))

  word_section : (k : Classed) (make : Span → Section) → ((w : Classed) → IsWord w → IsSection (make w.span) (k ∷ w ∷ [])) → (ts : List Classed)
      → Good (λ s v. IsSection s (k ∷ v)) end left (λ ss. AWord ∷ []) left place (one_of is_word end ts >>= λ w. Ok (make w.0, w.1)) ts
  word_section k make is ts =
      then_one (λ s v. IsSection s (k ∷ v)) end left (λ ss. AWord ∷ []) left place left place ts IsWord (one_of is_word end ts) _
      (under _ end left (on AWord) left same place _ ts (token_good AWord is_word IsWord word_reads end left left (kept_word left) ts)) (λ w us hw.
      done (λ s v. IsSection s (k ∷ w ∷ v)) end left place _ us (is w hw))

  section_at : (c : TokenClass) (s : Span) (ts : List Classed) → Good IsSection end left place left place (spec.section_on end left (Some c) (tok c s ∷ ts)) (tok c s ∷ ts)
  section_at (class.Word word.Init) s ts =
      taken IsSection end left place left (λ ss. ATree ∷ []) left place (tok (class.Word word.Init) s) _ ts (λ ss. refl)
      (tree_section (tok (class.Word word.Init) s) (section.Init s) (λ t us ht. init (tok (class.Word word.Init) s) t us refl ht refl refl) ts)
  section_at (class.Word word.Dd) s ts =
      taken IsSection end left place left (λ ss. AName ∷ ATree ∷ AnEndDd ∷ []) left place (tok (class.Word word.Dd) s) _ ts (λ ss. refl) (dd_good (tok (class.Word word.Dd) s) refl ts)
  section_at (class.Word word.Action) s ts =
      taken IsSection end left place left (λ ss. AName ∷ MoreItems ∷ []) left place (tok (class.Word word.Action) s) _ ts (λ ss. refl) (action_good (tok (class.Word word.Action) s) refl ts)
  section_at (class.Word word.Reward) s ts =
      taken IsSection end left place left (λ ss. ATree ∷ []) left place (tok (class.Word word.Reward) s) _ ts (λ ss. refl)
      (tree_section (tok (class.Word word.Reward) s) (section.Reward s) (λ t us ht. reward (tok (class.Word word.Reward) s) t us refl ht refl refl) ts)
  section_at (class.Word word.Discount) s ts =
      taken IsSection end left place left (λ ss. AWord ∷ []) left place (tok (class.Word word.Discount) s) _ ts (λ ss. refl)
      (word_section (tok (class.Word word.Discount) s) (section.Discount s) (λ w hw. discount (tok (class.Word word.Discount) s) w refl hw refl refl) ts)
  section_at (class.Word word.Horizon) s ts =
      taken IsSection end left place left (λ ss. AWord ∷ []) left place (tok (class.Word word.Horizon) s) _ ts (λ ss. refl)
      (word_section (tok (class.Word word.Horizon) s) (section.Horizon s) (λ w hw. horizon (tok (class.Word word.Horizon) s) w refl hw refl refl) ts)
  section_at (class.Word word.Tolerance) s ts =
      taken IsSection end left place left (λ ss. AWord ∷ []) left place (tok (class.Word word.Tolerance) s) _ ts (λ ss. refl)
      (word_section (tok (class.Word word.Tolerance) s) (section.Tolerance s) (λ w hw. tolerance (tok (class.Word word.Tolerance) s) w refl hw refl refl) ts)
  section_at (class.Word word.Unnormalized) s ts = λ ss. refl
  section_at _ s ts = λ ss. refl

  section_good : (t : Classed) (ts : List Classed) → Good IsSection end left place left place (spec.section_at end left (t ∷ ts)) (t ∷ ts)
  unfolding spec.section_at
  section_good t ts = section_at t.class t.span ts

  pub section_some : (s : Section) → IsSection s [] → ⊥
  section_some s (init k t us hk ht es e) = cc
  section_some s (dd k n b t us hk hn ht hb es e) = cc
  section_some s (action k n b items us hk hn hx hb es e) = cc
  section_some s (reward k t us hk ht es e) = cc
  section_some s (discount k w hk hw es e) = cc
  section_some s (horizon k w hk hw es e) = cc
  section_some s (tolerance k w hk hw es e) = cc

  -- the sections behind some
  abbrev AreMoreSections : List Section → List Section → List Classed → Type 0
  AreMoreSections front all ts = (more : List Section) × (all ≡ front ++ more) × AreAll IsSection more ts

  shorter : (used us ts : List Classed) → (used ≡ [] → ⊥) → ts ≡ used ++ us → length us < length ts
  shorter [] us ts h e = absurd (h refl)
  shorter (u ∷ used) us ts h e = subst (λ z. length us < length z) (sym e) (longer used)
    where
      longer : (used : List Classed) → length us < length (u ∷ (used ++ us))
      longer [] = omega arith
      longer (v ∷ vs) = omega (arith, longer vs)

  none_left : (t : Classed) (ts : List Classed) → length (t ∷ ts) ≤ zero → ⊥
  none_left t ts h = omega arith

  sections_good : (n : ℕ) (xs : List Section) (ts : List Classed) → length ts ≤ n → Good (AreMoreSections xs) end left place left place (spec.sections end left n xs ts) ts
  unfolding spec.sections
  sections_good zero xs [] le = ([], ([], sym (append-nil xs), refl), refl, λ ss. refl)
  sections_good zero xs (t ∷ ts) le = absurd (none_left t ts le)
  sections_good (suc n) xs [] le = ([], ([], sym (append-nil xs), refl), refl, λ ss. refl)
  sections_good (suc n) xs (t ∷ ts) le =
      behind IsSection (AreMoreSections xs) end left place left place left place (t ∷ ts) (spec.section_at end left (t ∷ ts)) _ (section_good t ts) (λ x us used is e.
      let less = shorter used us (t ∷ ts) (λ n. section_some x (subst (IsSection x) n is)) e in
      mapped (AreMoreSections (xs ++ (x ∷ []))) (λ y v. AreMoreSections xs y (used ++ v)) end left place left place (spec.sections end left n (xs ++ (x ∷ [])) us) us
      (λ all v (more, ex, hm). (x ∷ more, ex ∙ append_assoc xs (x ∷ []) more, (used, v, is, hm, refl)))
      (sections_good n (xs ++ (x ∷ [])) us (omega (arith, less))))

-- ---- a text

variables_kept : (left : ℕ) (c : TokenClass) → is_variables (Some c) ≡ true → leave left c ≡ Some left
variables_kept left c e = ap (leave left) (variables_reads.means (tok c (record { start = 0; end = 0 })) e)

observations_kept : (left : ℕ) (c : TokenClass) → is_observations (Some c) ≡ true → leave left c ≡ Some left
observations_kept left c e = ap (leave left) (observations_reads.means (tok c (record { start = 0; end = 0 })) e)

pub text_good : (end l : ℕ) (ts : List Classed) → Good IsText end (suc (suc l)) (λ ss. start) (suc (suc l)) place (spec.text end (suc (suc l)) ts) ts
unfolding spec.text
text_good end l ts =
    let rest : List Sym = AnOpen ∷ AnObservations ∷ ADeclaration ∷ MoreDeclarations ∷ [] in
    then_one IsText end (suc (suc l)) (λ ss. start) (suc l) (λ ss. AVariables ∷ ADeclaration ∷ MoreDeclarations ∷ rest) (suc (suc l)) place ts (IsA class.Open) (one_of is_open end ts) _
    (under _ end (suc (suc l)) (on AnOpen) (suc l) same (λ ss. AVariables ∷ ADeclaration ∷ MoreDeclarations ∷ rest) _ ts (token_good AnOpen is_open (IsA class.Open) open_reads end (suc (suc l)) (suc l) (opened (suc l)) ts)) (λ a us1 ha.
    then_one (λ f v. IsText f (a ∷ v)) end (suc l) (λ ss. AVariables ∷ ADeclaration ∷ MoreDeclarations ∷ rest) (suc l) (λ ss. ADeclaration ∷ MoreDeclarations ∷ rest) (suc (suc l)) place us1 (IsKeyword word.Variables) (one_of is_variables end us1) _
    (under _ end (suc l) (on AVariables) (suc l) same (λ ss. ADeclaration ∷ MoreDeclarations ∷ rest) _ us1 (token_good AVariables is_variables (IsKeyword word.Variables) variables_reads end (suc l) (suc l) (variables_kept (suc l)) us1)) (λ w us2 hw.
    behind (λ d v. AreDeclarations word.Variables d (a ∷ w ∷ v)) (λ f v. IsText f (a ∷ w ∷ v)) end (suc l) (λ ss. ADeclaration ∷ MoreDeclarations ∷ rest) (suc (suc l)) (λ ss. rest) (suc (suc l)) place us2 (spec.declarations end a.span w.span us2) _
    (under _ end (suc l) (λ ss. ADeclaration ∷ MoreDeclarations ∷ ss) (suc (suc l)) same (λ ss. rest) _ us2 (declarations_good end l word.Variables a w ha hw us2)) (λ d us3 used hd e3.
    then_one (λ f v. IsText f (a ∷ w ∷ (used ++ v))) end (suc (suc l)) (λ ss. rest) (suc l) (λ ss. AnObservations ∷ ADeclaration ∷ MoreDeclarations ∷ []) (suc (suc l)) place us3 (IsA class.Open) (one_of is_open end us3) _
    (under _ end (suc (suc l)) (on AnOpen) (suc l) same (λ ss. AnObservations ∷ ADeclaration ∷ MoreDeclarations ∷ []) _ us3 (token_good AnOpen is_open (IsA class.Open) open_reads end (suc (suc l)) (suc l) (opened (suc l)) us3)) (λ a2 us4 ha2.
    then_one (λ f v. IsText f (a ∷ w ∷ (used ++ (a2 ∷ v)))) end (suc l) (λ ss. AnObservations ∷ ADeclaration ∷ MoreDeclarations ∷ []) (suc l) (λ ss. ADeclaration ∷ MoreDeclarations ∷ []) (suc (suc l)) place us4 (IsKeyword word.Observations) (one_of is_observations end us4) _
    (under _ end (suc l) (on AnObservations) (suc l) same (λ ss. ADeclaration ∷ MoreDeclarations ∷ []) _ us4 (token_good AnObservations is_observations (IsKeyword word.Observations) observations_reads end (suc l) (suc l) (observations_kept (suc l)) us4)) (λ w2 us5 hw2.
    behind (λ d v. AreDeclarations word.Observations d (a2 ∷ w2 ∷ v)) (λ f v. IsText f (a ∷ w ∷ (used ++ (a2 ∷ w2 ∷ v)))) end (suc l) (λ ss. ADeclaration ∷ MoreDeclarations ∷ []) (suc (suc l)) place (suc (suc l)) place us5 (spec.declarations end a2.span w2.span us5) _
    (under _ end (suc l) (λ ss. ADeclaration ∷ MoreDeclarations ∷ ss) (suc (suc l)) same place _ us5 (declarations_good end l word.Observations a2 w2 ha2 hw2 us5)) (λ d2 us6 used2 hd2 e6.
    behind (AreMoreSections end (suc (suc l)) []) (λ f v. IsText f (a ∷ w ∷ (used ++ (a2 ∷ w2 ∷ (used2 ++ v))))) end (suc (suc l)) place (suc (suc l)) place (suc (suc l)) place us6 (spec.sections end (suc (suc l)) (length us6) [] us6) _
    (sections_good end (suc (suc l)) (length us6) [] us6 (omega arith)) (λ all us7 ws (more, ex, hm) e7.
    done (λ f v. IsText f (a ∷ w ∷ (used ++ (a2 ∷ w2 ∷ (used2 ++ (ws ++ v)))))) end (suc (suc l)) place _ us7
    (text d d2 all (a ∷ w ∷ used) (a2 ∷ w2 ∷ used2) ws hd hd2 (subst (λ z. AreAll IsSection z ws) (sym ex) hm) refl (ap (λ z. a ∷ w ∷ (used ++ (a2 ∷ w2 ∷ (used2 ++ z)))) (append-nil ws))))))))))

-- ---- a text is read to its end

abbrev pub AtEnd : {X : Type 0} → Result (X × List Classed) Fault → Type 0
AtEnd (Ok (x, us)) = us ≡ []
AtEnd (Err f) = ⊤

end_behind : {X Y : Type 0} (r : Result (X × List Classed) Fault) (f : X × List Classed → Result (Y × List Classed) Fault) → ((x : X × List Classed) → AtEnd (f x)) → AtEnd (r >>= f)
end_behind (Ok x) f h = h x
end_behind (Err e) f h = tt

sections_end : (end left n : ℕ) (xs : List Section) (ts : List Classed) → length ts ≤ n → AtEnd (spec.sections end left n xs ts)
unfolding spec.sections
sections_end end left zero xs [] le = refl
sections_end end left zero xs (t ∷ ts) le = absurd (none_left end left t ts le)
sections_end end left (suc n) xs [] le = refl
sections_end end left (suc n) xs (t ∷ ts) le = by (spec.section_at end left (t ∷ ts)) (section_good end left t ts) (λ x us le. sections_end end left n (xs ++ (x ∷ [])) us le)
  where
    by : (r : Result (Section × List Classed) Fault) → Good IsSection end left place left place r (t ∷ ts)
        → ((x : Section) (us : List Classed) → length us ≤ n → AtEnd (spec.sections end left n (xs ++ (x ∷ [])) us)) → AtEnd (r >>= λ x. spec.sections end left n (xs ++ (x.0 ∷ [])) x.1)
    by (Ok (x, us)) (used, is, e, runs) again = again x us (let less = shorter end left used us (t ∷ ts) (λ n. section_some end left x (subst (IsSection x) n is)) e in omega (arith, less))
    by (Err f) runs again = tt

last_end : {Y : Type 0} (r : Result (List Section × List Classed) Fault) (f : List Section → Y) → AtEnd r → AtEnd (r >>= λ all. Ok (f all.0, all.1))
last_end (Ok (x, us)) f h = h
last_end (Err e) f h = tt

pub text_end : (end left : ℕ) (ts : List Classed) → AtEnd (spec.text end left ts)
unfolding spec.text
text_end end left ts =
    end_behind (one_of is_open end ts) _ (λ a. end_behind (one_of is_variables end a.1) _ (λ k. end_behind (spec.declarations end a.0 k.0 k.1) _ (λ variables.
    end_behind (one_of is_open end variables.1) _ (λ b. end_behind (one_of is_observations end b.1) _ (λ l. end_behind (spec.declarations end b.0 l.0 l.1) _ (λ observations.
    last_end (spec.sections end left (length observations.1) [] observations.1) (λ all. record { variables = variables.0; observations = observations.0; sections = all })
    (sections_end end left (length observations.1) [] observations.1 (omega arith))))))))
