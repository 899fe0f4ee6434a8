use Rattle.std.proofs.Common.{◌∙◌, ap, ◌∷◌, ◌++◌, take, arith}
use Rattle.sp_script.specs.Lines.{texts, words_of}
use Rattle.sp_script.proofs.LineLemmas.{texts_more, words_of-word}
use Rattle.sp_script.proofs.lines.split_words.Goals as goal

pub loop-rest-preserved : goal.loop-rest-preserved
loop-rest-preserved c =
    let rest = c.loop-rest.rest.now in
    let n = c.word_len-len.result in
    let word = words_of-word rest n c.word_len-len.ensures.value (omega (arith, c.if-len-eq0.false)) c.word_len-len.ensures.within in
    texts_more c.loop-rest.words.items c.push.new.self.items _ (words_of c.behind-rest-else-len-eq0.result.now) (words_of c.args.line.now) c.in_ok-push.ensures.items
    (ap (λ xs. texts c.loop-rest.words.items ++ take n rest ∷ words_of xs) c.behind-rest-else-len-eq0.ensures ∙ ap (λ ws. texts c.loop-rest.words.items ++ ws) word ∙ c.loop-rest.invariant)
