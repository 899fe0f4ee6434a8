-- The vectors that the links of a backup lead to.
use Rattle.std.proofs.Common.{◌≡◌, ◌≢◌, ℕ, zero, suc, ◌<◌, refl, sym, ap, ◌∙◌, subst, arith, List, [], ◌∷◌, length, get_or, Bool, true, false, cond, Some, eqb}
use Rattle.std.specs.Prelude.{unwrap_or, All, AllPairs, Contains}
use Rattle.std.specs.List.{find, range_with_len}
use Rattle.std.proofs.lemmas.Bool.{eq-eqb, ne_eqb}
use Rattle.std.proofs.lemmas.List.{get_or-map, length-map}
use Rattle.std.proofs.lemmas.List.Elements.{All-contains_itself}
use Rattle.sp_theory.specs.Points.{IsPoint}
use Rattle.sp_theory.specs.Model.{Model, IsLawful}
use Rattle.sp_theory.specs.Values.{Weights, Member, Edition, leaf_member, dot}
use Rattle.sp_theory.specs.Backup.{estimate, candidate, choice, link_at, links_at}
use Rattle.sp_theory.proofs.Greatest.{greatest_case, greatest_among}
use Rattle.sp_theory.proofs.Backups.{range_below}
use Rattle.sp_theory.proofs.Links.{links_at-point}
use Rattle.sp_model.specs.declared.parts.Parts.{Parts}
use Rattle.sp_value.specs.declared.editions.Member as declared
use Rattle.sp_value.specs.Editions.{edition_of, member_of, no_member}
use Rattle.sp_value.specs.Linked.{member_with, linked_vectors}

-- members of different ids
abbrev pub Differ : Edition → Type 0
Differ edition = AllPairs (λ (x y : Member). x.id ≢ y.id) edition

-- a member of members with different ids is the one that its id finds
pub member_with-at : (m : Model) (edition : Edition) (k : ℕ) (d : Member) → Differ edition → k < length edition → member_with m edition (get_or edition k d).id ≡ get_or edition k d
member_with-at m [] k d differ less = absurd (omega arith)
member_with-at m (x ∷ xs) zero d differ less = ap (λ (b : Bool). unwrap_or (cond b (Some x) (find (λ z. eqb z.id x.id) xs)) (leaf_member m)) (eq-eqb x.id x.id refl)
member_with-at m (x ∷ xs) (suc k) d differ less =
    ap (λ (b : Bool). unwrap_or (cond b (Some x) (find (λ z. eqb z.id (get_or xs k d).id) xs)) (leaf_member m)) (ne_eqb x.id (get_or xs k d).id (differ 0 (suc k) d (omega arith) (omega arith)))
    ∙ member_with-at m xs k d (λ i j e low high. differ (suc i) (suc j) e (omega arith) (omega arith)) (omega arith)

pub member_with-contained : (m : Model) (edition : Edition) (x : Member) → Differ edition → Contains edition x → member_with m edition x.id ≡ x
member_with-contained m edition x differ (k, less, is) = ap (λ (y : Member). member_with m edition y.id) (sym is) ∙ member_with-at m edition k x differ less ∙ is

-- what holds of each member, and of that of record 0, holds of the one that an id finds
pub member_with-case : (m : Model) (P : Member → Type 0) (edition : Edition) (id : ℕ) → P (leaf_member m) → All P edition → P (member_with m edition id)
member_with-case m P [] id leaf all = leaf
member_with-case m P (x ∷ xs) id leaf all = by_test (eqb x.id id) (member_with-case m P xs id leaf (λ k d less. all (suc k) d (omega arith)))
  where
    by_test : (b : Bool) → P (unwrap_or (find (λ z. eqb z.id id) xs) (leaf_member m)) → P (unwrap_or (cond b (Some x) (find (λ z. eqb z.id id) xs)) (leaf_member m))
    by_test true rest = all 0 x (omega arith)
    by_test false rest = rest

-- the links of a backup lead to the vectors of its members
pub linked_vectors-links_at : (m : Model) (edition : Edition) (w : Weights) (a : ℕ) → 0 < length edition → Differ edition → (seen : List ℕ) → IsPoint m.sight_sizes seen → linked_vectors m edition (links_at m edition w a) seen ≡ (link_at m edition w a seen).vector
unfolding link_at
linked_vectors-links_at m edition w a some differ seen at =
    ap (λ (id : ℕ). (member_with m edition id).vector) (links_at-point m edition w a seen at)
    ∙ ap (λ (x : Member). x.vector) (member_with-contained m edition (link_at m edition w a seen) differ (greatest_among (λ x. estimate m w a seen x.vector) (λ x. x.id) (Contains edition) (leaf_member m) edition some (All-contains_itself edition)))

-- the action of a backup is one of the model's
pub choice-below : (m : Model) → IsLawful m → (edition : Edition) (w : Weights) → choice m edition w < m.actions
unfolding choice
choice-below m lawful edition w = greatest_case (λ a. dot m w (candidate m edition w a)) (λ a. a) (λ a. a < m.actions) 0 (range_with_len 0 m.actions) lawful.some_action (range_below m.actions)

-- members of a code's edition, as the theory has them
pub Differ-edition_of : (p : Parts) (members : List declared.Member) → AllPairs (λ (x y : declared.Member). x.id ≢ y.id) members → Differ (edition_of p members)
Differ-edition_of p members differ i j d low high e =
    let long = length-map members (member_of p) in
    let first = get_or-map (member_of p) members i no_member d (omega arith) in
    let second = get_or-map (member_of p) members j no_member d (omega arith) in
    differ i j no_member low (omega arith) (sym (ap (λ (x : Member). x.id) first) ∙ e ∙ ap (λ (x : Member). x.id) second)

pub All-edition_of : (p : Parts) (P : Member → Type 0) (members : List declared.Member) → All (λ (x : declared.Member). P (member_of p x)) members → All P (edition_of p members)
All-edition_of p P members all k d less =
    let long = length-map members (member_of p) in
    let its = get_or-map (member_of p) members k no_member d (omega arith) in
    subst P (sym its) (all k no_member (omega arith))
