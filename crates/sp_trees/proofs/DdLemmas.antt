-- Dds by name, in an index and in the list of its entries.
use Rattle.std.proofs.Common.{◌≡◌, ℕ, Bool, true, false, cond, List, [], ◌∷◌, ◌++◌, Some, None, refl, ap}
use Rattle.std.specs.Prelude.{option_map, find}
use Rattle.std.specs.Borrow.{Bor}
use Rattle.std.specs.Str.{bytes_eq}
use Rattle.std.specs.Map.{lookup}
use Rattle.indexmap.specs.IndexMap.{insert_entry}
use Rattle.sp_trees.specs.declared.env.Dd.{Dd}
use Rattle.sp_trees.specs.Dds.{dds_by_name, dd_of_name}

pub lookup_is : (name : List ℕ) (es : List (Bor (List ℕ) × Dd)) → lookup (λ k. bytes_eq name k.now) es ≡ dd_of_name name (dds_by_name es)
lookup_is name [] = refl
lookup_is name (e ∷ es) = go (bytes_eq name e.0.now) (lookup_is name es)
  where
    go : (b : Bool) → lookup (λ k. bytes_eq name k.now) es ≡ dd_of_name name (dds_by_name es)
        → cond b (Some e.1) (lookup (λ k. bytes_eq name k.now) es) ≡ option_map (λ d. d.1) (cond b (Some (e.0.now, e.1)) (find (λ d. bytes_eq name d.0) (dds_by_name es)))
    go true h = refl
    go false h = h

-- a new name goes to the end
pub insert_is : (name : Bor (List ℕ)) (dd : Dd) (es : List (Bor (List ℕ) × Dd)) → lookup (λ k. bytes_eq name.now k.now) es ≡ None
    → dds_by_name (insert_entry (λ x y. bytes_eq x.now y.now) es name dd) ≡ dds_by_name es ++ (name.now, dd) ∷ []
insert_is name dd [] h = refl
insert_is name dd (e ∷ es) h = go (bytes_eq name.now e.0.now) h (insert_is name dd es)
  where
    go : (b : Bool) → cond b (Some e.1) (lookup (λ k. bytes_eq name.now k.now) es) ≡ None
        → (lookup (λ k. bytes_eq name.now k.now) es ≡ None → dds_by_name (insert_entry (λ x y. bytes_eq x.now y.now) es name dd) ≡ dds_by_name es ++ (name.now, dd) ∷ [])
        → dds_by_name (cond b ((e.0, dd) ∷ es) (e ∷ insert_entry (λ x y. bytes_eq x.now y.now) es name dd)) ≡ dds_by_name (e ∷ es) ++ (name.now, dd) ∷ []
    go true h more = cc
    go false h more = ap (λ ds. (e.0.now, e.1) ∷ ds) (more h)
