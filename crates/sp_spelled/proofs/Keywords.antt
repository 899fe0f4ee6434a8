-- Keywords and names.
use Rattle.std.proofs.Common.{◌≡◌, ℕ, zero, suc, ◌<◌, Bool, true, false, ◌&&◌, List, [], ◌∷◌, refl, length, arith}
use Rattle.std.specs.Prelude.{IsTrue, All, codes}
use Rattle.std.specs.List.{list_all}
use Rattle.sp_lex.specs.Bytes.{is_word_byte}
use Rattle.sp_syntax.specs.declared.class.WordClass.{WordClass}
use Rattle.sp_syntax.specs.declared.class.WordClass.TheVariants as the_word
use Rattle.sp_syntax.specs.Classes.{word_class, section_keyword, inner_keyword}
use Rattle.sp_spelled.specs.Written.{IsKey}

pub word_bytes : (w : List ℕ) → list_all is_word_byte w ≡ true → All (λ b. IsTrue (is_word_byte b)) w
word_bytes [] h k d l = absurd (omega arith)
word_bytes (b ∷ w) h zero d l = and_left (is_word_byte b) (list_all is_word_byte w) h
  where
    and_left : (x y : Bool) → (x && y) ≡ true → IsTrue x
    and_left true y h = refl
    and_left false y h = h
word_bytes (b ∷ w) h (suc k) d l = word_bytes w (and_right (is_word_byte b) (list_all is_word_byte w) h) k d (omega arith)
  where
    and_right : (x y : Bool) → (x && y) ≡ true → y ≡ true
    and_right true y h = h
    and_right false y h = cc

pub key : (w : List ℕ) (k : WordClass) → 0 < length w → list_all is_word_byte w ≡ true → word_class w ≡ k → IsKey w k
key w k some bytes class = record { text = record { some = some; bytes = word_bytes w bytes }; class = class }

pub init_key : IsKey (codes "init") the_word.Init
unfolding word_class section_keyword inner_keyword
init_key = key (codes "init") the_word.Init (omega arith) refl refl

pub dd_key : IsKey (codes "dd") the_word.Dd
unfolding word_class section_keyword inner_keyword
dd_key = key (codes "dd") the_word.Dd (omega arith) refl refl

pub end_dd_key : IsKey (codes "enddd") the_word.EndDd
unfolding word_class section_keyword inner_keyword
end_dd_key = key (codes "enddd") the_word.EndDd (omega arith) refl refl

pub action_key : IsKey (codes "action") the_word.Action
unfolding word_class section_keyword inner_keyword
action_key = key (codes "action") the_word.Action (omega arith) refl refl

pub end_action_key : IsKey (codes "endaction") the_word.EndAction
unfolding word_class section_keyword inner_keyword
end_action_key = key (codes "endaction") the_word.EndAction (omega arith) refl refl

pub observe_key : IsKey (codes "observe") the_word.Observe
unfolding word_class section_keyword inner_keyword
observe_key = key (codes "observe") the_word.Observe (omega arith) refl refl

pub end_observe_key : IsKey (codes "endobserve") the_word.EndObserve
unfolding word_class section_keyword inner_keyword
end_observe_key = key (codes "endobserve") the_word.EndObserve (omega arith) refl refl

pub cost_key : IsKey (codes "cost") the_word.Cost
unfolding word_class section_keyword inner_keyword
cost_key = key (codes "cost") the_word.Cost (omega arith) refl refl

pub reward_key : IsKey (codes "reward") the_word.Reward
unfolding word_class section_keyword inner_keyword
reward_key = key (codes "reward") the_word.Reward (omega arith) refl refl

pub discount_key : IsKey (codes "discount") the_word.Discount
unfolding word_class section_keyword inner_keyword
discount_key = key (codes "discount") the_word.Discount (omega arith) refl refl

pub variables_key : IsKey (codes "variables") the_word.Variables
unfolding word_class section_keyword inner_keyword
variables_key = key (codes "variables") the_word.Variables (omega arith) refl refl

pub observations_key : IsKey (codes "observations") the_word.Observations
unfolding word_class section_keyword inner_keyword
observations_key = key (codes "observations") the_word.Observations (omega arith) refl refl
