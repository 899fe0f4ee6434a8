use Rattle.std.proofs.Common.{Some}
use Rattle.std.proofs.lemmas.Map.Text.{hash_map_updates_str}
use Rattle.sp_script.proofs.ledger.Ledger.set_seat.Goals as goal

pub returns-in-Ok-clause-seats : goal.returns-in-Ok-clause-seats
returns-in-Ok-clause-seats c = hash_map_updates_str c.args.name.now c.args.self.now.seats c.insert.new.self (Some c.args.seat) c.in-Ok.ensures.updates
