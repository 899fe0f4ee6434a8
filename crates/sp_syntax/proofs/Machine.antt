-- What may come next, as a stack of what has still to be read. The empty stack is a section's place.
use Rattle.std.proofs.Common.{ℕ, List, [], ◌∷◌, ◌++◌, Bool, true, false, Option, Some, None, Result, Ok, Err}
use Rattle.std.specs.Prelude.{⊤}
use Rattle.sp_syntax.specs.declared.class.WordClass.TheVariants as word
use Rattle.sp_syntax.specs.declared.class.TokenClass.{TokenClass}
use Rattle.sp_syntax.specs.declared.class.TokenClass.TheVariants as class
use Rattle.sp_syntax.specs.declared.class.Classed.{Classed}
use Rattle.sp_syntax.specs.declared.error.SyntaxKind.{SyntaxKind}
use Rattle.sp_syntax.specs.declared.error.SyntaxKind.TheVariants as kind
use Rattle.sp_syntax.specs.Fault.{Fault}
use Rattle.sp_syntax.specs.Reading.{is_open, is_close, is_right_square, is_word, is_name, is_variables, is_observations, is_end_dd, is_end_action, is_end_observe}
use Rattle.sp_syntax.specs.Refusal.{leave}

pub data Sym : Type 0 where
  AnOpen : Sym
  AClose : Sym
  AName : Sym
  AWord : Sym
  AVariables : Sym
  AnObservations : Sym
  AnEndDd : Sym
  ATree : Sym
  AfterOpen : Sym
  AfterSquare : Sym
  MoreTrees : Sym
  ABranch : Sym
  MoreBranches : Sym
  ADeclaration : Sym
  MoreDeclarations : Sym
  MoreValues : Sym
  AnObserved : Sym
  MoreObserved : Sym
  AnItem : Sym
  MoreItems : Sym

abbrev pub onto : List Sym → Option (List Sym) → Option (List Sym)
onto ss None = None
onto ss (Some new) = Some (new ++ ss)

-- one token
abbrev pub only_where : Bool → Option (List Sym)
only_where true = Some []
only_where false = None

-- the end of a list, or a part of it and the list again
abbrev pub or_more : Bool → Sym → Option (List Sym) → Option (List Sym)
or_more true s o = Some []
or_more false s o = onto (s ∷ []) o

abbrev pub in_tree : TokenClass → Option (List Sym)
in_tree class.Open = Some (AfterOpen ∷ [])
in_tree class.LeftSquare = Some (AfterSquare ∷ [])
in_tree _ = None

abbrev pub in_round : TokenClass → Option (List Sym)
in_round (class.Word word.Number) = Some (AClose ∷ [])
in_round (class.Word word.Minus) = Some (AClose ∷ [])
in_round (class.Word word.Name) = Some (MoreBranches ∷ [])
in_round class.Primed = Some (ABranch ∷ MoreBranches ∷ [])
in_round _ = None

abbrev pub in_square : TokenClass → Option (List Sym)
in_square class.Plus = Some (ATree ∷ MoreTrees ∷ [])
in_square class.Star = Some (ATree ∷ MoreTrees ∷ [])
in_square _ = None

abbrev pub in_branch : TokenClass → Option (List Sym)
in_branch class.Open = Some (AWord ∷ ATree ∷ AClose ∷ [])
in_branch _ = None

abbrev pub in_declaration : TokenClass → Option (List Sym)
in_declaration class.Open = Some (AName ∷ AWord ∷ MoreValues ∷ [])
in_declaration _ = None

abbrev pub in_observed : TokenClass → Option (List Sym)
in_observed (class.Word word.Name) = Some (ATree ∷ [])
in_observed _ = None

abbrev pub in_item : TokenClass → Option (List Sym)
in_item (class.Word word.Name) = Some (ATree ∷ [])
in_item (class.Word word.Observe) = Some (MoreObserved ∷ [])
in_item (class.Word word.Cost) = Some (ATree ∷ [])
in_item _ = None

-- what is left to read once a token of the class is read
abbrev pub expand : Sym → TokenClass → Option (List Sym)
expand AnOpen c = only_where (is_open (Some c))
expand AClose c = only_where (is_close (Some c))
expand AName c = only_where (is_name (Some c))
expand AWord c = only_where (is_word (Some c))
expand AVariables c = only_where (is_variables (Some c))
expand AnObservations c = only_where (is_observations (Some c))
expand AnEndDd c = only_where (is_end_dd (Some c))
expand ATree c = in_tree c
expand AfterOpen c = in_round c
expand AfterSquare c = in_square c
expand MoreTrees c = or_more (is_right_square (Some c)) MoreTrees (in_tree c)
expand ABranch c = in_branch c
expand MoreBranches c = or_more (is_close (Some c)) MoreBranches (in_branch c)
expand ADeclaration c = in_declaration c
expand MoreDeclarations c = or_more (is_close (Some c)) MoreDeclarations (in_declaration c)
expand MoreValues c = or_more (is_close (Some c)) MoreValues (only_where (is_word (Some c)))
expand AnObserved c = in_observed c
expand MoreObserved c = or_more (is_end_observe (Some c)) MoreObserved (in_observed c)
expand AnItem c = in_item c
expand MoreItems c = or_more (is_end_action (Some c)) MoreItems (in_item c)

-- a section's first word
abbrev pub in_section : TokenClass → Option (List Sym)
in_section (class.Word word.Init) = Some (ATree ∷ [])
in_section (class.Word word.Dd) = Some (AName ∷ ATree ∷ AnEndDd ∷ [])
in_section (class.Word word.Action) = Some (AName ∷ MoreItems ∷ [])
in_section (class.Word word.Reward) = Some (ATree ∷ [])
in_section (class.Word word.Discount) = Some (AWord ∷ [])
in_section (class.Word word.Horizon) = Some (AWord ∷ [])
in_section (class.Word word.Tolerance) = Some (AWord ∷ [])
in_section _ = None

abbrev pub step : List Sym → TokenClass → Option (List Sym)
step [] c = in_section c
step (s ∷ ss) c = onto ss (expand s c)

abbrev pub start : List Sym
start = AnOpen ∷ AVariables ∷ ADeclaration ∷ MoreDeclarations ∷ AnOpen ∷ AnObservations ∷ ADeclaration ∷ MoreDeclarations ∷ []

abbrev pub kind_of : List Sym → TokenClass → SyntaxKind
kind_of [] (class.Word word.Unnormalized) = kind.Unsupported
kind_of (AfterSquare ∷ ss) class.Hash = kind.Unsupported
kind_of (AfterSquare ∷ ss) class.Slash = kind.Unsupported
kind_of (AfterSquare ∷ ss) (class.Word word.Minus) = kind.Unsupported
kind_of _ _ = kind.Unexpected

abbrev pub fault : Classed → SyntaxKind → Fault
fault t k = record { at = t.span.start; kind = k }

abbrev pub at_end : ℕ → List Sym → Result ⊤ Fault
at_end end [] = Ok tt
at_end end (s ∷ ss) = Err (record { at = end; kind = kind.Unclosed })

abbrev pub go_on : (ℕ → List Sym → Result ⊤ Fault) → List Sym → Classed → Option (List Sym) → Option ℕ → Result ⊤ Fault
go_on k ss t None l = Err (fault t (kind_of ss t.class))
go_on k ss t (Some new) None = Err (fault t kind.TooDeep)
go_on k ss t (Some new) (Some l) = k l new

-- the first fault of the tokens, where so many brackets may still be opened
abbrev pub run : ℕ → ℕ → List Sym → List Classed → Result ⊤ Fault
run end left ss [] = at_end end ss
run end left ss (t ∷ ts) = go_on (λ l new. run end l new ts) ss t (step ss t.class) (leave left t.class)
