use Rattle.std.proofs.Common.{rules, arith}
use Rattle.std.specs.Arc.{arc_value}
use Rattle.sp_model.proofs.Bounds.{least_return_from, least_return_to, top_to}
use Rattle.sp_planning.proofs.Finished.{book_file_is}
use Rattle.sp_planning.proofs.books.book_file.Goals as goal

pub returns : goal.returns
returns c =
    let run = c.in-Ok.run' in
    let t = arc_value run.task in
    let logs = c.args.transcript.now in
    book_file_is c.args.book t run.events c.in_ok-values.values logs c.in_ok-text.text.items c.task.ensures.known c.requires.done c.requires.logs c.in-Ok.ensures.1 c.in-Ok.ensures.2 c.in_ok-values.ensures
    (rw (c.options.ensures, c.deref.ensures) at c.read_list.ensures.0) (rw c.as_slice.ensures at c.read_numbers.ensures) (omega arith) (rw c.as_slice-2.ensures at c.read_logs.ensures) (omega arith)
    (λ p known. (least_return_from p known, least_return_to p known, top_to p known)) (search rules) (search rules) c.in_ok-text.ensures
