-- A script's commands one after another, as they are dealt to desks.
use Rattle.std.proofs.Common.{◌≡◌, ◌∙◌, sym, ap, subst, refl, ℕ, ◌+◌, ◌<◌, Bool, true, false, cond, ◌&&◌, ◌||◌, List, [], ◌∷◌, ◌++◌, length, get_or, take, drop, ◌⊎◌, inl, inr, append_assoc, append-nil}
use Rattle.std.specs.Prelude.{filter, map, replicate, set}
use Rattle.std.specs.List.{list_any}
use Rattle.std.specs.Str.{bytes_eq}
use Rattle.std.proofs.lemmas.Bool.{cases_eq, eq-eqb, ne_eqb}
use Rattle.std.proofs.lemmas.List.{take-append-drop, take_more, drop_more, length-set, length-replicate, get_or-set_same, get_or-set_other, get_or-replicate}
use Rattle.std.proofs.lemmas.List.Elements.{filter-append}
use Rattle.sp_script.specs.declared.command.Command.{Command}
use Rattle.sp_script.specs.declared.error.ScriptKind.{ScriptKind}
use Rattle.sp_script.specs.Commands.{name_of, verb_of, request_with, is_opening, was_asked, opening_count, BreaksAfter, AreCommands}
use Rattle.sp_script.specs.Served.{opened_names}
use Rattle.sp_script.proofs.CommandLemmas.{opening_count-more}
use Rattle.sp_script.proofs.SomeLemmas.{some_sessions_have_commands}
use Rattle.sp_serving.proofs.Commanding.{faultless_at, commands_first, opened-more, is_new}
use Rattle.sp_concurrent.specs.Deals.{is_at, hand_of, AreHands}

-- ---- names
-- a name is among those that were opened where its opening was asked for
asked_is : (name : List ℕ) (cs : List Command) → list_any (bytes_eq name) (opened_names cs) ≡ was_asked is_opening name cs
asked_is name [] = refl
asked_is name (c ∷ cs) = go (is_opening (verb_of c)) (asked_is name cs)
  where
    go : (b : Bool) → list_any (bytes_eq name) (opened_names cs) ≡ was_asked is_opening name cs
        → list_any (bytes_eq name) (map name_of (cond b (c ∷ filter (λ (d : Command). is_opening (verb_of d)) cs) (filter (λ (d : Command). is_opening (verb_of d)) cs)))
        ≡ ((b && bytes_eq name (name_of c)) || was_asked is_opening name cs)
    go true h = ap (λ (x : Bool). bytes_eq name (name_of c) || x) h
    go false h = h

-- ---- the command at a place
module _ (cs : List Command) (i : ℕ) (c : Command) (less : i < length cs) (at : c ≡ get_or cs i c) where
  pub rest_from : drop i cs ≡ c ∷ drop (i + 1) cs
  rest_from = drop_more cs i c less ∙ ap (λ (x : Command). x ∷ drop (i + 1) cs) (sym at)

  front_to : take (i + 1) cs ≡ take i cs ++ c ∷ []
  front_to = take_more cs i c less ∙ ap (λ (x : Command). take i cs ++ x ∷ []) (sym at)

  seam : take i cs ++ c ∷ drop (i + 1) cs ≡ cs
  seam = ap (λ (rest : List Command). take i cs ++ rest) (sym rest_from) ∙ take-append-drop i cs

  pub names_to : opened_names (take (i + 1) cs) ≡ opened_names (take i cs) ++ cond (is_opening (verb_of c)) (name_of c ∷ []) []
  names_to = ap opened_names front_to ∙ opened-more (take i cs) c

  pub count_to : opening_count (take (i + 1) cs) ≡ opening_count (take i cs) + cond (is_opening (verb_of c)) 1 0
  count_to = ap opening_count front_to ∙ opening_count-more (take i cs) c

  module _ (are : AreCommands cs) where
    faultless : (kind : ScriptKind) → ¬ BreaksAfter (take i cs) (request_with c) kind
    faultless = faultless_at (take i cs) c (drop (i + 1) cs) (subst AreCommands (sym seam) are)

    pub new_name : is_opening (verb_of c) ≡ true → list_any (bytes_eq (name_of c)) (opened_names (take i cs)) ≡ false
    new_name opens = asked_is (name_of c) (take i cs) ∙ is_new (take i cs) c faultless opens

    commands_to : AreCommands (take i cs ++ c ∷ [])
    commands_to = commands_first (take i cs ++ c ∷ []) (drop (i + 1) cs) (subst AreCommands (sym (append_assoc (take i cs) (c ∷ []) (drop (i + 1) cs) ∙ seam)) are)

-- ---- hands
module _ (desk : List ℕ → ℕ) where
  pub hand_own : (before : List Command) (c : Command) → hand_of desk (before ++ c ∷ []) (desk (name_of c)) ≡ hand_of desk before (desk (name_of c)) ++ c ∷ []
  hand_own before c =
      filter-append (λ (x : Command). is_at desk (desk (name_of c)) (name_of x)) before (c ∷ [])
      ∙ ap (λ (b : Bool). hand_of desk before (desk (name_of c)) ++ cond b (c ∷ []) []) (eq-eqb (desk (name_of c)) (desk (name_of c)) refl)

  pub hand_other : (before : List Command) (c : Command) (d : ℕ) → (d ≡ desk (name_of c) → ⊥) → hand_of desk (before ++ c ∷ []) d ≡ hand_of desk before d
  hand_other before c d differ =
      filter-append (λ (x : Command). is_at desk d (name_of x)) before (c ∷ [])
      ∙ ap (λ (b : Bool). hand_of desk before d ++ cond b (c ∷ []) []) (ne_eqb (desk (name_of c)) d (λ e. differ (sym e)))
      ∙ append-nil (hand_of desk before d)

  module _ (n : ℕ) where
    pub hands_first : AreHands desk n [] (replicate n [])
    hands_first = record { count = length-replicate n []; each = λ d x less. get_or-replicate n d [] x less }

    module _ (before : List Command) (c : Command) (hands : List (List Command)) (are : AreHands desk n before hands) (less : desk (name_of c) < n) where
      within : desk (name_of c) < length hands
      within = subst (λ (m : ℕ). desk (name_of c) < m) (sym are.count) less

      grown : get_or hands (desk (name_of c)) [] ++ c ∷ [] ≡ hand_of desk (before ++ c ∷ []) (desk (name_of c))
      grown = ap (λ (h : List Command). h ++ c ∷ []) (are.each (desk (name_of c)) [] less) ∙ sym (hand_own before c)

      pub hand_known : AreCommands (before ++ c ∷ []) → AreCommands (get_or hands (desk (name_of c)) [] ++ c ∷ [])
      hand_known known = subst AreCommands (sym grown) (some_sessions_have_commands (is_at desk (desk (name_of c))) (before ++ c ∷ []) known)

      pub hands_more : AreHands desk n (before ++ c ∷ []) (set hands (desk (name_of c)) (get_or hands (desk (name_of c)) [] ++ c ∷ []))
      hands_more = record {
        count = length-set hands (desk (name_of c)) (get_or hands (desk (name_of c)) [] ++ c ∷ []) ∙ are.count;
        each = λ d x below. by_place d x below (cases_eq d (desk (name_of c)));
      }
        where
          by_place : (d : ℕ) (x : List Command) → d < n → (d ≡ desk (name_of c)) ⊎ (d ≡ desk (name_of c) → ⊥)
              → get_or (set hands (desk (name_of c)) (get_or hands (desk (name_of c)) [] ++ c ∷ [])) d x ≡ hand_of desk (before ++ c ∷ []) d
          by_place d x below (inl same) =
              subst (λ (j : ℕ). get_or (set hands (desk (name_of c)) (get_or hands (desk (name_of c)) [] ++ c ∷ [])) j x ≡ hand_of desk (before ++ c ∷ []) j) (sym same)
              (get_or-set_same hands (desk (name_of c)) (get_or hands (desk (name_of c)) [] ++ c ∷ []) x within ∙ grown)
          by_place d x below (inr differ) =
              get_or-set_other hands (desk (name_of c)) d (get_or hands (desk (name_of c)) [] ++ c ∷ []) x differ ∙ are.each d x below ∙ sym (hand_other before c d differ)

-- ---- the deal under way
module _ (desk : List ℕ → ℕ) (n : ℕ) (cs : List Command) (i : ℕ) (c : Command) (less : i < length cs) (at : c ≡ get_or cs i c) (are : AreCommands cs)
    (hands : List (List Command)) (dealt : AreHands desk n (take i cs) hands) (k : ℕ) (is : k ≡ desk (name_of c)) (below : k < n) where
  own : desk (name_of c) < n
  own = subst (λ (j : ℕ). j < n) is below

  pub dealt_known : AreCommands (get_or hands k [] ++ c ∷ [])
  dealt_known = subst (λ (j : ℕ). AreCommands (get_or hands j [] ++ c ∷ [])) (sym is) (hand_known desk n (take i cs) c hands dealt own (commands_to cs i c less at are))

  pub dealt_more : (new : List (List Command)) → new ≡ set hands k (get_or hands k [] ++ c ∷ []) → AreHands desk n (take (i + 1) cs) new
  dealt_more new same =
      subst (λ (ds : List Command). AreHands desk n ds new) (sym (front_to cs i c less at))
      (subst (AreHands desk n (take i cs ++ c ∷ [])) (sym same)
      (subst (λ (j : ℕ). AreHands desk n (take i cs ++ c ∷ []) (set hands j (get_or hands j [] ++ c ∷ []))) (sym is) (hands_more desk n (take i cs) c hands dealt own)))
