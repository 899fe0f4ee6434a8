-- What is wrong with a text, and where.
use Rattle.std.specs.Prelude.{ℕ}
use Rattle.sp_syntax.specs.declared.error.SyntaxKind.{SyntaxKind}

pub record Fault : Type 0 where
  pub at : ℕ
  pub kind : SyntaxKind
