-- The law of runs: from what a book keeps to what its readers may use.
use Rattle.std.proofs.Common.{◌*◌, ◌^◌, ◌<◌, List, get_or, sym, ap, arith}
use Rattle.sp_theory.specs.Sums.{times}
use Rattle.sp_theory.specs.Draws.{q}
use Rattle.sp_theory.specs.Model.{IsLawful, divisions}
use Rattle.sp_theory.specs.Book.{Task, Book, Event, opening, editions}
use Rattle.sp_theory.specs.Runs.{IsHistory, replay}
use Rattle.sp_theory.specs.Laws.{IsSound}
use Rattle.sp_theory.proofs.Whole.{≤ℤ_trans}
use Rattle.sp_theory.proofs.Weighing.{le_same}
use Rattle.sp_theory.proofs.Returns.{from_least, to_top, return_low}
use Rattle.sp_theory.proofs.Sound.{IsKept, sound_opening, sound_replay}
use Rattle.sp_theory.proofs.Tidy.{IsTidy, tidy_opening, tidy_replay}

pub sound_book : (t : Task) (lawful : IsLawful t.model) (b : Book) → IsKept t b → IsTidy t b → IsSound t b
sound_book t lawful b sound tidy = record {
  plan = sound.plan;
  values = sound.values;
  members = sound.members;
  grown_members = sound.grown_members;
  ranged = λ n d less k c within s p.
      let member = sound.members n d less k c within in (
        ≤ℤ_trans (from_least t.model lawful b.records sound.plan sound.values _ s member.0) (le_same (λ h. sym member.1 h s)),
        ≤ℤ_trans (le_same (λ h. member.1 h s)) (to_top t.model lawful b.records sound.plan sound.values (get_or (get_or (editions b) n d) k c).id _ s (omega arith) member.0 p),
      );
  below_return = λ n d less k c within s p.
      let member = sound.members n d less k c within in
      ≤ℤ_trans (le_same (ap (times (q ^ (divisions t.model * (get_or (get_or (editions b) n d) k c).id))) (λ h. member.1 h s)))
      (return_low t.model lawful b.records sound.plan sound.values _ _ s (omega arith) member.0 p);
  never_falls = sound.rising;
  improves = sound.reaches;
  raisers = tidy.raisers;
  filled = tidy.filled;
  apart = tidy.apart;
  grown_apart = tidy.grown_apart;
}

pub run_is_sound : (t : Task) (lawful : IsLawful t.model) → 0 < t.beliefs → (es : List Event) → IsHistory t (opening t) es → IsSound t (replay t (opening t) es)
run_is_sound t lawful some es history = sound_book t lawful _ (sound_replay t lawful (opening t) es (sound_opening t) history) (tidy_replay t lawful some (opening t) es (sound_opening t) (tidy_opening t) history)
