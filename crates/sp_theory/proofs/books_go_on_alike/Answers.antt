use Rattle.sp_theory.proofs.BooksAgreement.{allowed_agrees, after_event_agrees}
use Rattle.sp_theory.proofs.books_go_on_alike.Goals as goal

pub returns : goal.returns
returns c t b d agree e allowed = (allowed_agrees t b d agree e allowed, after_event_agrees t b d agree e allowed)
