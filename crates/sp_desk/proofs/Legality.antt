-- The logs of a desk's sessions are legal for a run with the editions that it knows of.
use Rattle.std.proofs.Common.{◌≡◌, true, ℕ, ◌+◌, Some, List, [], ◌∷◌, map, length, slice_get, get_or, take, refl, sym, ◌∙◌, ap, subst, arith}
use Rattle.std.proofs.Math.Seq.{take-length}
use Rattle.std.proofs.lemmas.List.{length-map}
use Rattle.std.specs.Prelude.{All, option_map}
use Rattle.std.proofs.lemmas.List.Elements.{All-map, All-contains}
use Rattle.std.proofs.lemmas.Option.{slice_get-map}
use Rattle.sp_theory.specs.Model.{Model}
use Rattle.sp_theory.specs.Values.{Edition}
use Rattle.sp_theory.specs.Agreement.{EditionsAgree}
use Rattle.sp_theory.specs.Logs.{Log, IsLegalLog, all_of}
use Rattle.sp_theory.specs.SessionLaws.{AreOf}
use Rattle.sp_theory.proofs.LogLemmas.{edition_same, legal_logs_agree}
use Rattle.sp_model.specs.Problem.{problem}
use Rattle.sp_value.specs.Tasks.{TaskParts}
use Rattle.sp_value.specs.Editions.{EditionParts, members_in}
use Rattle.sp_publish.specs.Published.{PublishedList, ListGoesOn, newest_in}
use Rattle.sp_session.specs.Sessions.{SessionParts, shelf_of, answering_member, closed_log}
use Rattle.sp_session.specs.Laws.{IsSessionIn, IsLastOf}
use Rattle.sp_session.proofs.Closing.{closed_logs_are_legal}
use Rattle.sp_desk.specs.declared.seats.Seat.{Seat}
use Rattle.sp_desk.specs.Desks.{DeskParts, IsDesk, IsSeatIn, names_in, told_below}
use Rattle.sp_desk.specs.Laws.{DesksAreLegal, DeskRunsServe}
use Rattle.sp_desk.specs.Ended.{MayCloseOn, closed_logs, AreLegalOver}
use Rattle.sp_desk.specs.Asked.{KnowsMore}
use Rattle.sp_desk.specs.Runs.{AreSeatsServed}
use Rattle.sp_script.specs.declared.command.Command.{Command}
use Rattle.sp_script.specs.Served.{IsWholeReply, commands_of}
use Rattle.sp_desk.proofs.DeskLemmas.{all_told, newest_there}
use Rattle.sp_desk.proofs.AskedLemmas.{all_known}
use Rattle.sp_desk.proofs.PlaceLemmas.{may_close}

-- an edition of a list, as the theory has the list's editions
shown_at : (es : List EditionParts) (k : ℕ) (e : EditionParts) → slice_get es k ≡ Some e → slice_get (map members_in es) k ≡ Some (members_in e)
shown_at es k e at = slice_get-map members_in es k ∙ ap (option_map members_in) at

answered_in : (m : Model) (es ds : List EditionParts) → All (λ e. slice_get es e.number ≡ Some e) ds → AreOf m (map members_in es) (shelf_of ds)
answered_in m es ds h e edition there = All-contains P (shelf_of ds) (e, edition) all there
  where
    P : ℕ × Edition → Type 0
    P x = (other : Edition) × (slice_get (map members_in es) x.0 ≡ Some other) × EditionsAgree m x.1 other

    all : All P (shelf_of ds)
    all = All-map P (λ (d : EditionParts). (d.number, members_in d)) ds (λ i d below. (members_in (get_or ds i d), shown_at es (get_or ds i d).number (get_or ds i d) (h i d below), edition_same m (members_in (get_or ds i d))))

seat_legal : (t : TaskParts) (es : List EditionParts) (s : SessionParts) (last : EditionParts) → IsSeatIn t es s → slice_get es last.number ≡ Some last → last.number + 1 ≡ length es → last.task ≡ t
    → IsLegalLog (problem t.model) (map members_in es) (closed_log s last).entries
seat_legal t es s last h there end of =
    let m : Model = problem s.task.model in
    let count : length (map members_in es) ≡ length es = length-map es members_in in
    let told = all_told (told_below (length es)) (all_of (map members_in es)) s.entries (λ e below. omega (arith, below, count)) h.told in
    let is : IsSessionIn (map members_in es) s = record { session = h.session; answered = answered_in m es s.editions h.answered; told = told } in
    let here : IsLastOf (map members_in es) last = record { last = omega (arith, end, count); there = (members_in last, shown_at es last.number last there, edition_same (problem last.task.model) (members_in last)) } in
    let legal : IsLegalLog m (map members_in es) (closed_log s last).entries = closed_logs_are_legal (map members_in es) s last is here (of ∙ sym h.task) (omega (arith, h.newest, end)) in
    subst (λ (u : TaskParts). IsLegalLog (problem u.model) (map members_in es) (closed_log s last).entries) h.task legal

pub desks_legal : DesksAreLegal
desks_legal d last h new editions agree =
    let (there, end, of) = newest_there d.known d.task last h.list h.task new in
    All-map (λ (log : Log). IsLegalLog (problem d.task.model) editions log.entries) (λ (s : Seat). closed_log s.session last) d.seats
    (λ i s below. legal_logs_agree (problem d.task.model) (map members_in d.known.editions) editions agree (closed_log (get_or d.seats i s).session last).entries
    (seat_legal d.task d.known.editions (get_or d.seats i s).session last (h.seats i s below) there end of))

-- ---- the end
-- a desk that heard of the end, looked, and is kept so
module _ (d one two kept : DeskParts) (end : PublishedList) (e : EditionParts) (ended : end.ended ≡ true) (first : KnowsMore d one) (heard : ListGoesOn end one.known) (later : KnowsMore one two) (is : kept ≡ two) (h : IsDesk kept) (new : newest_in two.known ≡ Some e) where
  task_kept : kept.task ≡ d.task
  task_kept = ap (λ (p : DeskParts). p.task) is ∙ later.task ∙ first.task

  known_kept : kept.known ≡ end
  known_kept = ap (λ (p : DeskParts). p.known) is ∙ all_known one two end ended heard later

  newest_kept : newest_in kept.known ≡ Some e
  newest_kept = subst (λ (p : DeskParts). newest_in p.known ≡ Some e) (sym is) new

  pub closing_legal : (logs : List Log) → logs ≡ closed_logs kept.seats e → AreLegalOver d.task end logs
  closing_legal logs same =
      subst (AreLegalOver d.task end) (sym same)
      (subst (λ (p : PublishedList). AreLegalOver d.task p (closed_logs kept.seats e)) known_kept
      (subst (λ (t : TaskParts). AreLegalOver t kept.known (closed_logs kept.seats e)) task_kept (desks_legal kept e h newest_kept)))

  pub closing_task : e.task ≡ d.task
  closing_task = (newest_there kept.known kept.task e h.list h.task newest_kept).2 ∙ task_kept

  pub closing_may : All (MayCloseOn e) kept.seats
  closing_may = may_close kept e h newest_kept

-- the names of the logs are those of the sessions
names_closed : (seats : List Seat) (last : EditionParts) → map (λ log. log.name) (closed_logs seats last) ≡ names_in seats
names_closed [] last = refl
names_closed (s ∷ seats) last = ap (λ (ns : List (List ℕ)). s.session.name ∷ ns) (names_closed seats last)

pub runs_serve : DeskRunsServe
runs_serve r last h over =
    let all : take r.served r.commands ≡ r.commands = ap (λ (n : ℕ). take n r.commands) over ∙ take-length r.commands in
    let served : AreSeatsServed r.commands r.desk.seats = subst (λ (cs : List Command). AreSeatsServed cs r.desk.seats) all h.after in
    record {
      sessions = names_closed r.desk.seats last ∙ served.names;
      replies = All-map (λ (log : Log). IsWholeReply (commands_of log.name r.commands) log.entries) (λ (s : Seat). closed_log s.session last) r.desk.seats
          (λ i s below. ((get_or r.desk.seats i s).session.entries, last.number, (answering_member (get_or r.desk.seats i s).session last).id, (answering_member (get_or r.desk.seats i s).session last).action, (served.each i s below).replies, refl));
    }
