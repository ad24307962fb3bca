-- How the worker is used: a line for each of its commands.
use Rattle.std.specs.Prelude.{ℕ, List, [], ◌∷◌, ◌++◌, flat_map, codes}

-- an option, and a letter for its value: F for a file, P for a program, N for a number
pub record OptionForm : Type 0 where
  pub name : List ℕ
  pub letter : ℕ

pub record CommandForm : Type 0 where
  pub name : List ℕ
  pub required : List OptionForm
  pub optional : List OptionForm

abbrev pub option_text : OptionForm → List ℕ
option_text option = option.name ++ 32 ∷ option.letter ∷ []

abbrev pub required_text : OptionForm → List ℕ
required_text option = 32 ∷ option_text option

abbrev pub optional_text : OptionForm → List ℕ
optional_text option = 32 ∷ 91 ∷ (option_text option ++ 93 ∷ [])

abbrev pub command_text : CommandForm → List ℕ
command_text form = codes "usage: airbyte_worker " ++ (form.name ++ (flat_map required_text form.required ++ flat_map optional_text form.optional))

abbrev pub lines_text : List CommandForm → List ℕ
lines_text [] = []
lines_text (form ∷ []) = command_text form
lines_text (form ∷ next ∷ forms) = command_text form ++ 10 ∷ lines_text (next ∷ forms)

abbrev pub file : List ℕ → OptionForm
file name = record { name = name; letter = 70 }

abbrev pub program : List ℕ → OptionForm
program name = record { name = name; letter = 80 }

abbrev pub number : List ℕ → OptionForm
number name = record { name = name; letter = 78 }

abbrev pub attempts : List OptionForm
attempts = number (codes "--attempts") ∷ []

abbrev pub commands : List CommandForm
commands =
    record { name = codes "local"; required = file (codes "--messages") ∷ file (codes "--catalog") ∷ []; optional = attempts }
    ∷ record {
      name = codes "sync";
      required = program (codes "--source") ∷ file (codes "--source-config") ∷ program (codes "--dest") ∷ file (codes "--dest-config") ∷ file (codes "--catalog") ∷ file (codes "--state") ∷ [];
      optional = attempts;
    }
    ∷ record { name = codes "spec"; required = program (codes "--program") ∷ []; optional = [] }
    ∷ record { name = codes "check"; required = program (codes "--program") ∷ file (codes "--config") ∷ []; optional = [] }
    ∷ record { name = codes "discover"; required = program (codes "--program") ∷ file (codes "--config") ∷ []; optional = [] }
    ∷ record { name = codes "made"; required = number (codes "--rows") ∷ number (codes "--workers") ∷ []; optional = [] }
    ∷ []

abbrev pub usage : List ℕ
usage = lines_text commands
