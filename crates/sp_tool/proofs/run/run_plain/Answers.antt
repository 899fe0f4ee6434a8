use Rattle.std.proofs.Common.{map, string_bytes}
use Rattle.sp_tool.proofs.run.run_plain.Goals as goal

pub returns : goal.returns
returns g c = c.ended.ensures (record {
  words = map string_bytes c.args.words.now;
  store = g.S.Store.folder c.args.store.now;
  later = g.S.Store.folder c.work-done.new.store;
  out = g.K.Sink.written c.args.out.now;
  end = g.K.Sink.written c.work-done.new.out;
}) c.work-done.ensures.cause c.work-done.ensures.later
