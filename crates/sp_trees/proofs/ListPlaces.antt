-- The rows on the values of a list: their place, which is its bracket, and their kinds.
use Rattle.std.proofs.Common.{◌≡◌, ℕ, List, [], ◌∷◌, sym, ap, inl, inr}
use Rattle.sp_dd.specs.Func.{Shape}
use Rattle.std.specs.Prelude.{◌⊎◌}
use Rattle.sp_trees.specs.declared.refusal.Refusal.{Refusal}
use Rattle.sp_trees.specs.declared.refusal.ModelKind.TheVariants as kind
use Rattle.sp_trees.specs.declared.lists.Op.{Op}
use Rattle.sp_trees.specs.declared.lists.Op.TheVariants as op
use Rattle.sp_trees.specs.Values.{Value}
use Rattle.sp_trees.specs.Rows.{partial_of, PartialRow, ListRow}

pub at_of : (r q : Refusal) → r ≡ q → q.at ≡ r.at
at_of r q e = sym (ap (λ r. r.at) e)

partial_at : (o : Op) (s : Shape) (at : ℕ) (v : Value) (ws : List Value) (r : Refusal) → PartialRow o s at v ws r → at ≡ r.at
partial_at o s at v [] r h = absurd h
partial_at o s at v (w ∷ ws) r (inl (inl h)) = at_of r _ h.1
partial_at o s at v (w ∷ ws) r (inl (inr h)) = at_of r _ h.1
partial_at o s at v (w ∷ ws) r (inr h) = partial_at o s at (partial_of o v w) ws r h.1

list_at : (o : Op) (s : Shape) (at : ℕ) (ws : List Value) (r : Refusal) → ListRow o s at ws r → at ≡ r.at
list_at o s at [] r h = absurd h
list_at o s at (w ∷ ws) r h = partial_at o s at w ws r h

pub sum_at : (s : Shape) (at : ℕ) (ws : List Value) (r : Refusal) → ListRow op.Sum s at ws r → at ≡ r.at
sum_at s at ws r h = list_at op.Sum s at ws r h

pub product_at : (s : Shape) (at : ℕ) (ws : List Value) (r : Refusal) → ListRow op.Product s at ws r → at ≡ r.at
product_at s at ws r h = list_at op.Product s at ws r h

partial_kind : (o : Op) (s : Shape) (at : ℕ) (v : Value) (ws : List Value) (r : Refusal) → PartialRow o s at v ws r → (r.kind ≡ kind.TooFine) ⊎ (r.kind ≡ kind.TooLarge)
partial_kind o s at v [] r h = absurd h
partial_kind o s at v (w ∷ ws) r (inl (inl h)) = inl (ap (λ (r : Refusal). r.kind) h.1)
partial_kind o s at v (w ∷ ws) r (inl (inr h)) = inr (ap (λ (r : Refusal). r.kind) h.1)
partial_kind o s at v (w ∷ ws) r (inr h) = partial_kind o s at (partial_of o v w) ws r h.1

list_kind : (o : Op) (s : Shape) (at : ℕ) (ws : List Value) (r : Refusal) → ListRow o s at ws r → (r.kind ≡ kind.TooFine) ⊎ (r.kind ≡ kind.TooLarge)
list_kind o s at [] r h = absurd h
list_kind o s at (w ∷ ws) r h = partial_kind o s at w ws r h

pub sum_kind : (s : Shape) (at : ℕ) (ws : List Value) (r : Refusal) → ListRow op.Sum s at ws r → (r.kind ≡ kind.TooFine) ⊎ (r.kind ≡ kind.TooLarge)
sum_kind s at ws r h = list_kind op.Sum s at ws r h

pub product_kind : (s : Shape) (at : ℕ) (ws : List Value) (r : Refusal) → ListRow op.Product s at ws r → (r.kind ≡ kind.TooFine) ⊎ (r.kind ≡ kind.TooLarge)
product_kind s at ws r h = list_kind op.Product s at ws r h
