use Rattle.std.proofs.Common.{◌≡◌}
use Rattle.sp_reader.proofs.SourceLemmas.{broken_rule}
use Rattle.sp_reader.proofs.source.read_model.Goals as goal

pub model_of-requires : goal.model_of-requires
model_of-requires c = let t = c.in-Ok.ensures.tree in record { tokens = t.0; lexed = t.1; read = t.2.0 }

pub returns-in-Err-Fault-clause-refused : goal.returns-in-Err-Fault-clause-refused
returns-in-Err-Fault-clause-refused c = λ at kind e.
    let p : c.in-Err-Fault.at ≡ at = cc in
    let q : c.in_ok-kind-in-Err-Fault.kind ≡ kind = cc in
    let f = c.in-Err-Fault in
    let first = rw f.field-0-is at f.ensures in
    broken_rule c.args.source.now c.in-Ok.tree c.in-Ok.ensures.tree f.at f.kind c.in_ok-kind-in-Err-Fault.kind first c.in_ok-kind-in-Err-Fault.ensures at kind p q
