-- Sessions that are dealt to desks.
use Rattle.std.specs.Prelude.{◌≡◌, ◌==◌, ℕ, ◌%◌, ◌<◌, Bool, List, length, slice_index_or, unwrap_or}
use Rattle.sp_names.specs.Names.{number_of}
use Rattle.sp_script.specs.declared.command.Command.{Command}
use Rattle.sp_script.specs.Served.{commands_of_some}

-- the number of the desk of a session, of so many desks and of sessions with these names: session j has that of number j mod their number
abbrev pub desk_of : ℕ → List (List ℕ) → List ℕ → ℕ
desk_of n names name = unwrap_or (number_of names name) 0 % n

-- whether the session of that name is at that desk
abbrev pub is_at : (List ℕ → ℕ) → ℕ → List ℕ → Bool
is_at desk d name = desk name == d

-- all commands of the sessions of a desk, in order
abbrev pub hand_of : (List ℕ → ℕ) → List Command → ℕ → List Command
hand_of desk cs d = commands_of_some (is_at desk d) cs

-- each of so many desks has all commands of its sessions
pub record AreHands (desk : List ℕ → ℕ) (n : ℕ) (cs : List Command) (hands : List (List Command)) : Type 0 where
  pub count : length hands ≡ n
  pub each : (d : ℕ) (x : List Command) → d < n → slice_index_or hands d x ≡ hand_of desk cs d
