-- The law of scripts that are served in parts, as the function of this crate states it.
use Rattle.std.specs.Prelude.{◌≡◌, ℕ, ◌<◌, List, All}
use Rattle.sp_theory.specs.Logs.{Log}
use Rattle.sp_script.specs.declared.command.Command.{Command}
use Rattle.sp_script.specs.Served.{opened_names, AreServed}
use Rattle.sp_concurrent.specs.Deals.{hand_of}
use Rattle.sp_concurrent.specs.Gathered.{log_names, IsAmong}

-- where the sessions are dealt to desks, and the commands of each desk are served by its logs, all of these logs, in order of opening, serve the script
abbrev pub PartsServeTheWhole : Type 0
PartsServeTheWhole =
    (desk : List ℕ → ℕ) (n : ℕ) (cs : List Command) (parts : ℕ → List Log) (logs : List Log)
    → ((d : ℕ) → d < n → AreServed (hand_of desk cs d) (parts d))
    → log_names logs ≡ opened_names cs → All (IsAmong n parts) logs → AreServed cs logs
