use Rattle.std.proofs.Common.{◌≡◌, ◌++◌, ◌∷◌, [], ◌∙◌, ◌-◌, sym, ap, drop, take, arith}
use Rattle.std.proofs.lemmas.List.{take_all, length-drop}
use Rattle.sp_dd.specs.NodeLists.{made_node}
use Rattle.sp_dd.specs.Hashes.{node_hash}
use Rattle.sp_dd.proofs.Indexing.{put_found, is_new, indexed_push, ok_of}
use Rattle.sp_dd.proofs.draft.place_by_hash.Goals as goal

pub returns-in-Some-clause-place : goal.returns-in-Some-clause-place
returns-in-Some-clause-place c = put_found _ _ _ c.in-Some.ensures.0 c.in-Some.ensures.1 c.requires.indexed.once

pub returns-clause-place : goal.returns-clause-place
returns-clause-place c = is_new _ _ _ _ c.in_default.ensures (c.count_uses.ensures ∙ c.in_ok-push.ensures.ok) c.len-at.ensures

pub returns-clause-indexed : goal.returns-clause-indexed
returns-clause-indexed c =
    let f : c.push-2.new.self ≡ c.args.hashes.now ++ c.hash_of-hash.result ∷ [] = ok_of _ _ (sym c.is_err.ensures.value ∙ c.if-is_err.false) c.push-2.ensures.ok in
    let all : take (c.len.result - c.args.start) (drop c.args.start c.args.list.now) ≡ drop c.args.start c.args.list.now =
    take_all _ _ (omega (arith, length-drop c.args.start c.args.list.now, c.len.ensures)) in
    let h : c.hash_of-hash.result ≡ node_hash (made_node c.args.slot (drop c.args.start c.args.list.now)) = c.hash_of-hash.ensures ∙ ap (λ ps. node_hash (made_node c.args.slot ps)) all in
    indexed_push _ _ _ _ _ _ c.requires.indexed c.in_default.ensures h (c.count_uses.ensures ∙ c.in_ok-push.ensures.ok) f
