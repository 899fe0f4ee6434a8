-- Scripts and texts that are none.
use Rattle.std.proofs.Common.{◌≡◌, ◌⊎◌, ◌∙◌, ℕ, ◌<◌, List, [], ◌∷◌, sym, subst, inl, inr, arith}
use Rattle.std.proofs.lemmas.Bool.{cases_order}
use Rattle.sp_model.specs.declared.parts.Decl.{Decl}
use Rattle.sp_script.specs.declared.error.ScriptKind.{ScriptKind}
use Rattle.sp_script.specs.Script.{HasFault, IsFirstKind, IsFirstFault, kinds}
use Rattle.sp_script.specs.Laws.{ScriptsAreNotRefused, TextsAreRefusedOnce}

-- the first one holds
first_holds : (P : ScriptKind → Type 0) (xs : List ScriptKind) (c : ScriptKind) → IsFirstKind P xs c → P c
first_holds P [] c f = absurd f
first_holds P (x ∷ xs) c (inl (e, p)) = subst P (sym e) p
first_holds P (x ∷ xs) c (inr (un, f)) = first_holds P xs c f

-- and is one
first_one : (P : ScriptKind → Type 0) (xs : List ScriptKind) (c d : ScriptKind) → IsFirstKind P xs c → IsFirstKind P xs d → c ≡ d
first_one P [] c d f g = absurd f
first_one P (x ∷ xs) c d (inl (e, p)) (inl (h, r)) = e ∙ sym h
first_one P (x ∷ xs) c d (inl (e, p)) (inr (un, rest)) = absurd (un p)
first_one P (x ∷ xs) c d (inr (un, rest)) (inl (h, r)) = absurd (un r)
first_one P (x ∷ xs) c d (inr (un, f)) (inr (un2, g)) = first_one P xs c d f g

pub scripts_are_not_refused : ScriptsAreNotRefused
scripts_are_not_refused sights source cs line kind script (k, is, first) = script.faultless k kind (first_holds (HasFault sights source k) kinds kind first.fault)

once : (sights : List Decl) (source : List ℕ) (k j : ℕ) (kind other : ScriptKind) → IsFirstFault sights source k kind → IsFirstFault sights source j other → (k ≡ j) ⊎ ((k < j) ⊎ (j < k)) → (k ≡ j) × (kind ≡ other)
once sights source k j kind other f g (inl same) = (same, first_one (HasFault sights source j) kinds kind other (subst (λ (n : ℕ). IsFirstKind (HasFault sights source n) kinds kind) same f.fault) g.fault)
once sights source k j kind other f g (inr (inl less)) = absurd (g.earlier k kind less (first_holds (HasFault sights source k) kinds kind f.fault))
once sights source k j kind other f g (inr (inr less)) = absurd (f.earlier j other less (first_holds (HasFault sights source j) kinds other g.fault))

pub texts_are_refused_once : TextsAreRefusedOnce
texts_are_refused_once sights source line other_line kind other_kind (k, is, f) (j, are, g) =
    let (same, alike) = once sights source k j kind other_kind f g (cases_order k j) in
    (omega (arith, is, are, same), alike)
