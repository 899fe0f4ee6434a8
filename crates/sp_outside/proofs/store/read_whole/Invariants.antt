use Rattle.std.proofs.Common.{vec_len, ◌-◌, ◌<◌, ◌+◌, ◌≡◌, ℕ, List, Some}
use Rattle.sp_outside.specs.Bytes.{IsFront}
use Rattle.sp_outside.specs.Folder.{IsLaterFolder}
use Rattle.sp_outside.proofs.store.read_whole.Given as goal

abbrev pub invariant-loop-store : goal.invariant-loop-store
invariant-loop-store g l = record {
  so_far : (bytes : List ℕ) → (g.S.Store.folder l.fn.store).content l.name ≡ Some bytes → IsFront bytes l.content.items;
  block : 0 < vec_len l.block;
  later : IsLaterFolder (g.S.Store.folder l.fn.store) (g.S.Store.folder l.store);
}

abbrev pub decreases-loop-store : goal.decreases-loop-store
decreases-loop-store g l = l.limit + 1 - vec_len l.content
