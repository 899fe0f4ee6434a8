-- What is served at a book.
use Rattle.std.specs.Prelude.{◌≡◌, ◌<◌, length}
use Rattle.sp_core.specs.Books.{BookParts, state_of}
use Rattle.sp_serving.specs.Replies.{newest_of}
use Rattle.sp_serving.specs.Serving.{ServingParts, with_next}

-- a book of the task that has the editions on which commands were served
pub record HasServedEditions (s : ServingParts) (b : BookParts) : Type 0 where
  pub task : b.task ≡ s.task
  pub newest : s.newest < length b.editions

-- the next command is served on the newest edition of such a book; on another book nothing is
pub record IsServedOn (s : ServingParts) (b : BookParts) (d : ServingParts) : Type 0 where
  pub next : HasServedEditions s b → d ≡ with_next s (newest_of (state_of b))
  pub other : ¬ HasServedEditions s b → d ≡ s
