-- What is read of the canonical text of each model.
use Rattle.std.specs.Prelude.{◌≡◌, ℕ, List, [], Ok, codes}
use Rattle.sp_syntax.specs.declared.class.WordClass.TheVariants as the_word
use Rattle.sp_syntax.specs.declared.text.Declarations.{Declarations}
use Rattle.sp_syntax.specs.declared.text.Section.{Section}
use Rattle.sp_syntax.specs.Grammar.{AreDeclarations}
use Rattle.sp_spelled.specs.Written.{Written}
use Rattle.sp_model.specs.declared.parts.Parts.{Parts}
use Rattle.sp_model.specs.Kept.{IsModel}
use Rattle.sp_declarations.specs.declared.declarations.Read.{Read}
use Rattle.sp_declarations.specs.Declarations.{declarations, declarations_of, variable_limits, sight_limits}
use Rattle.sp_canonical.specs.ModelSigns.{declarations_line}

-- in any source that spells both lines, the declarations are those of the model
pub record DeclarationsAreRead (p : Parts) : Type 0 where
  pub variables : Read
  pub sights : Read
  pub first : Written (AreDeclarations the_word.Variables) (λ source x. declarations source variable_limits [] x.declarations ≡ Ok variables) 2 (declarations_line (codes "variables") p.variables)
  pub second : Written (AreDeclarations the_word.Observations) (λ source y. declarations source sight_limits variables.names y.declarations ≡ Ok sights) 2 (declarations_line (codes "observations") p.sights)
  pub both : (source : List ℕ) (x y : Declarations) (sections : List Section) → declarations source variable_limits [] x.declarations ≡ Ok variables → declarations source sight_limits variables.names y.declarations ≡ Ok sights
      → declarations_of source (record { variables = x; observations = y; sections = sections }) ≡ Ok (record { variables = p.variables; sights = p.sights })

abbrev pub CanonicalDeclarationsAreRead : Type 0
CanonicalDeclarationsAreRead = (p : Parts) → IsModel p → DeclarationsAreRead p
