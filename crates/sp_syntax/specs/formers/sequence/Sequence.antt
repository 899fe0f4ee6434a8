-- How a `Sequence` holds its parts, so that a tree may hold sequences of trees.
use mathlib.Core.Path.{◌≡◌, refl, sym}
use mathlib.Core.List.{List, []}
use mathlib.Core.Former.{Former, this, list, via, children}
use base.Stored.{code_map}
use denote.RattleType.{RattleType}
use denote.HoleLaws.{Alike}
use denote.HolePlaces.{Recodes, struct_places, laid}
use denote.Hole.Carrier.{listed, list-listed}
use denote.Hole.Fix.{over}
use denote.Param.Weighed.{Weighed, w_list}
use denote.Model.Placed.{view_places}
use Rattle.std.specs.formers.vec.Vec as vec
use Rattle.std.specs.declared.alloc.Global.{Global}
use Rattle.std.specs.contracts.alloc.Global as heap
use Rattle.std.specs.contracts.impls.GlobalAllocator.TheImpl.{ghosts}
use Rattle.sp_syntax.specs.declared.sequence.Sequence.TheInside.{Inside}
use Rattle.sp_syntax.specs.declared.sequence.Sequence.TheView.{view, invariant}
use Rattle.sp_syntax.specs.contracts.sequence.Sequence as outer
use Rattle.sp_syntax.specs.contracts.sequence.Sequence.TheInside as inner

-- a sequence is seen as a list
abbrev pub the_former : Former {0} → Former {0}
the_former g = list g

abbrev pub the_weighed : {g : Former {0}} → Weighed g → Weighed (the_former g)
the_weighed w = w_list w

pub the_empty : List ⊥
the_empty = []

abbrev pub the_items : (X : Type 0) → List X → List X
the_items X parts = parts

pub the_items_listed : (X : Type 0) (parts : List X) → listed _ (children (the_former this) X parts) ≡ the_items X parts
the_items_listed X parts = list-listed X parts

-- the struct's one field, as the vector that it holds
abbrev fields : Former {0}
fields = via (vec.the_former this Global) Inside (λ X s. s.parts) (λ X v. record { parts = v }) (λ X s. refl) (λ X v. refl)

module _ (R S : RattleType) (h : R.Denot → S.Denot) where
  pub the_places : Alike R S h → Alike (outer.the_row R) (outer.the_row S) ((the_former this).map R.Denot S.Denot h)
  the_places alike = view_places fields (list this) view (λ X Y k u. refl) (λ X u. refl) R.Denot S.Denot h (outer.the_row R).coded (outer.the_row S).coded
      (invariant R.Denot) (invariant S.Denot) (λ u p q. refl) (λ u p q. refl) (λ u e. tt) (λ u e. tt)
      (over (inner.the_row R)) (over (inner.the_row S))
      (struct_places (inner.the_type R) (inner.the_type S) (vec.mapped h, tt) _ (λ d. refl) refl (laid _ _ _ (vec.the_places heap.the_row ghosts R S h alike), tt))

  pub the_codes_placed : Recodes R S h → Recodes (outer.the_row R) (outer.the_row S) ((the_former this).map R.Denot S.Denot h)
  the_codes_placed e parts = sym (code_map R.coded.code S.coded.code h (λ x. sym (e x)) parts)
