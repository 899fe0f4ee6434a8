-- What stands in the help.
use Rattle.std.proofs.Common.{◌≡◌, ℕ, List, [], ◌∷◌, ◌++◌, codes, refl, ap, sym, ◌∙◌, append_assoc, take, drop, inl, inr}
use Rattle.std.specs.List.{concat}
use Rattle.sp_words.specs.declared.job.Job.{Job}
use Rattle.sp_words.specs.declared.job.Job.TheVariants.{Plan, Check, Show, Gen, Trial, Audit, Migrate, Act, Help, Version}
use Rattle.sp_tool.specs.declared.status.Status.{Status}
use Rattle.sp_tool.specs.declared.status.Status.TheVariants.{Done, Refused, Usage, NoMemory, ReadFault, WriteFault, NotLegal}
use Rattle.sp_words.specs.Jobs.{IsCommandWord}
use Rattle.sp_tool.specs.Help.{command_words, command_help, status_help, help_parts, help_text, StandsIn, IsToldCommand, HelpIsWhole}

-- a part of a text stands in it
stands_at : (front : List (List ℕ)) (part : List ℕ) (back : List (List ℕ)) → StandsIn part (concat (front ++ (part ∷ back)))
stands_at [] part back = ([], (concat back, refl))
stands_at (more ∷ front) part back =
    let s = stands_at front part back in
    (more ++ s.0, (s.1.0, ap (λ t. more ++ t) s.1.1 ∙ sym (append_assoc more s.0 (part ++ s.1.0))))

-- the parts of commands and statuses, at their places
told : (job : Job) → StandsIn (command_help job) help_text
told (Plan plan) = stands_at (take 1 help_parts) (command_help (Plan plan)) (drop 2 help_parts)
told (Check model) = stands_at (take 2 help_parts) (command_help (Check model)) (drop 3 help_parts)
told (Show model) = stands_at (take 3 help_parts) (command_help (Show model)) (drop 4 help_parts)
told (Gen number) = stands_at (take 4 help_parts) (command_help (Gen number)) (drop 5 help_parts)
told (Trial number) = stands_at (take 5 help_parts) (command_help (Trial number)) (drop 6 help_parts)
told (Audit plan) = stands_at (take 6 help_parts) (command_help (Audit plan)) (drop 7 help_parts)
told (Migrate plan) = stands_at (take 7 help_parts) (command_help (Migrate plan)) (drop 8 help_parts)
told (Act plan script) = stands_at (take 8 help_parts) (command_help (Act plan script)) (drop 9 help_parts)
told Help = stands_at (take 9 help_parts) (command_help Help) (drop 10 help_parts)
told Version = stands_at (take 10 help_parts) (command_help Version) (drop 11 help_parts)

told_status : (status : Status) → StandsIn (status_help status) help_text
told_status Done = stands_at (take 12 help_parts) (status_help Done) (drop 13 help_parts)
told_status Refused = stands_at (take 13 help_parts) (status_help Refused) (drop 14 help_parts)
told_status Usage = stands_at (take 14 help_parts) (status_help Usage) (drop 15 help_parts)
told_status NoMemory = stands_at (take 15 help_parts) (status_help NoMemory) (drop 16 help_parts)
told_status ReadFault = stands_at (take 16 help_parts) (status_help ReadFault) (drop 17 help_parts)
told_status WriteFault = stands_at (take 17 help_parts) (status_help WriteFault) (drop 18 help_parts)
told_status NotLegal = stands_at (take 18 help_parts) (status_help NotLegal) (drop 19 help_parts)

-- the words of each command
named : (job : Job) (word : List ℕ) → IsCommandWord job word → StandsIn (codes " " ++ word) (command_words job)
named (Plan plan) word e = rw e (codes "perseus", (codes " MODEL --beliefs N --depth D --stages N --seed S --workers N\n        [--prune] [--explore uniform|sweep] [--sessions SCRIPT]\n", refl))
named (Check model) word e = rw e (codes "perseus", (codes " MODEL\n", refl))
named (Show model) word e = rw e (codes "perseus", (codes " MODEL\n", refl))
named (Gen number) word e = rw e (codes "perseus", (codes " NUMBER\n", refl))
named (Trial number) word e = rw e (codes "perseus", (codes " NUMBER\n", refl))
named (Audit plan) word e = rw e (codes "perseus", (codes " PLAN\n", refl))
named (Migrate plan) word e = rw e (codes "perseus", (codes " PLAN\n", refl))
named (Act plan script) word e = rw e (codes "perseus", (codes " PLAN SCRIPT\n", refl))
named Help word (inl e) = rw e (codes "perseus", (codes ", -h, help\n", refl))
named Help word (inr (inl e)) = rw e (codes "perseus --help,", (codes ", help\n", refl))
named Help word (inr (inr e)) = rw e (codes "perseus --help, -h,", (codes "\n", refl))
named Version word (inl e) = rw e (codes "perseus", (codes ", -V\n", refl))
named Version word (inr e) = rw e (codes "perseus --version,", (codes "\n", refl))

pub help_tells : HelpIsWhole
help_tells = (λ job. record { lines = told job; words = named job }, told_status)
