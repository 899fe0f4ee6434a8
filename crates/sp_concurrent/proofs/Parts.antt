-- A script that is served in parts.
use Rattle.std.proofs.Common.{◌≡◌, ◌∙◌, sym, ap, subst, refl, ℕ, ◌<◌, Bool, true, false, cond, ◌&&◌, List, [], ◌∷◌, get_or}
use Rattle.std.specs.Prelude.{All, Contains, filter}
use Rattle.std.specs.Str.{bytes_eq}
use Rattle.std.proofs.lemmas.List.{get_or-map, length-map}
use Rattle.std.proofs.lemmas.List.Elements.{All-contains, All-filter, All-map, filter_passes}
use Rattle.sp_theory.specs.Logs.{Log}
use Rattle.sp_script.specs.declared.command.Command.{Command}
use Rattle.sp_script.specs.Commands.{name_of, verb_of, is_opening}
use Rattle.sp_script.specs.Served.{opened_names, asks_entry, commands_of, commands_of_some, IsWholeReply, AreServed}
use Rattle.sp_script.proofs.CommandLemmas.{bytes_same}
use Rattle.sp_concurrent.specs.Deals.{is_at}
use Rattle.sp_concurrent.specs.Gathered.{log_names}
use Rattle.sp_concurrent.specs.Laws.{PartsServeTheWhole}

module _ (test : List ℕ → Bool) where
  -- the commands of a session that passes are those that it has among all
  same_commands : (name : List ℕ) → test name ≡ true → (cs : List Command) → commands_of name (commands_of_some test cs) ≡ commands_of name cs
  same_commands name passes [] = refl
  same_commands name passes (c ∷ cs) = by_test (test (name_of c)) refl (bytes_eq name (name_of c)) refl (same_commands name passes cs)
    where
      by_test : (b : Bool) → test (name_of c) ≡ b → (same : Bool) → bytes_eq name (name_of c) ≡ same → commands_of name (commands_of_some test cs) ≡ commands_of name cs
          → commands_of name (cond b (c ∷ commands_of_some test cs) (commands_of_some test cs)) ≡ cond (bytes_eq name (name_of c) && asks_entry c) (c ∷ commands_of name cs) (commands_of name cs)
      by_test true e same f h = ap (λ (ds : List Command). cond (bytes_eq name (name_of c) && asks_entry c) (c ∷ ds) ds) h
      by_test false e true f h = let other = ap test (bytes_same name (name_of c) f) in absurd (cc)
      by_test false e false f h = h ∙ ap (λ (b : Bool). cond (b && asks_entry c) (c ∷ commands_of name cs) (commands_of name cs)) (sym f)

  -- the names that are opened among them pass
  names_pass : (cs : List Command) → All (λ name. test name ≡ true) (opened_names (commands_of_some test cs))
  names_pass cs =
      All-map (λ (name : List ℕ). test name ≡ true) name_of (filter (λ (c : Command). is_opening (verb_of c)) (commands_of_some test cs))
      (All-filter (λ (c : Command). is_opening (verb_of c)) (λ (c : Command). test (name_of c) ≡ true) (commands_of_some test cs) (filter_passes (λ (c : Command). test (name_of c)) cs))

-- the name of a log is among the names
name_there : (logs : List Log) (log : Log) → Contains logs log → Contains (log_names logs) log.name
name_there logs log (k, less, there) = (k, subst (λ (n : ℕ). k < n) (sym (length-map logs (λ (x : Log). x.name))) less, get_or-map (λ (x : Log). x.name) logs k log log.name less ∙ ap (λ (x : Log). x.name) there)

-- a log of a part replies to all commands of its session
part_replies : (test : List ℕ → Bool) (cs : List Command) (logs : List Log) → AreServed (commands_of_some test cs) logs → (log : Log) → Contains logs log → IsWholeReply (commands_of log.name cs) log.entries
part_replies test cs logs served log there =
    let passes : test log.name ≡ true =
    All-contains (λ (name : List ℕ). test name ≡ true) (opened_names (commands_of_some test cs)) log.name (names_pass test cs) (subst (λ (ns : List (List ℕ)). Contains ns log.name) served.sessions (name_there logs log there)) in
    subst (λ (ds : List Command). IsWholeReply ds log.entries) (same_commands test log.name passes cs)
    (All-contains (λ (x : Log). IsWholeReply (commands_of x.name (commands_of_some test cs)) x.entries) logs log served.replies there)

pub parts_serve : PartsServeTheWhole
parts_serve desk n cs parts logs served names among = record {
  sessions = names;
  replies = λ k x less.
      let (d, below, there) = among k x less in
      part_replies (is_at desk d) cs (parts d) (served d below) (get_or logs k x) there;
}
