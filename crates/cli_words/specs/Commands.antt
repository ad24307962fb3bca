-- What the words of a program ask for. The first is the command; behind it stand options, each with its value, in any order.
use Rattle.std.specs.Prelude.{ℕ, List, [], ◌∷◌, if◌then◌else◌, Option, None, Some, codes}
use Rattle.std.specs.Str.{bytes_eq}
use Rattle.cli_words.specs.Pairs.{value_of, are_pairs_of, number_in}

-- The worker

pub data Asked : Type 0 where
  Local : (messages catalog : List ℕ) (attempts : ℕ) → Asked
  Sync : (source source_config dest dest_config catalog state : List ℕ) (attempts : ℕ) → Asked
  Spec : (program : List ℕ) → Asked
  Check : (program config : List ℕ) → Asked
  Discover : (program config : List ℕ) → Asked
  Made : (rows workers : ℕ) → Asked

-- how often a sync is attempted: from once to 20 times, and 3 times where no word says so
abbrev pub attempts_said : Option (List ℕ) → Option ℕ
attempts_said None = Some 3
attempts_said (Some word) = number_in 1 20 word

abbrev pub number_said : ℕ → ℕ → Option (List ℕ) → Option ℕ
number_said low high None = None
number_said low high (Some word) = number_in low high word

abbrev pub local_of : Option (List ℕ) → Option (List ℕ) → Option ℕ → Option Asked
local_of (Some messages) (Some catalog) (Some attempts) = Some (Local messages catalog attempts)
local_of messages catalog attempts = None

abbrev pub local_asked : List (List ℕ) → Option Asked
local_asked words =
    if are_pairs_of (codes "--messages" ∷ codes "--catalog" ∷ codes "--attempts" ∷ []) words
    then local_of (value_of (codes "--messages") words) (value_of (codes "--catalog") words) (attempts_said (value_of (codes "--attempts") words))
    else None

-- what is copied from and to: a program and its configuration
pub record Side : Type 0 where
  pub program : List ℕ
  pub config : List ℕ

abbrev pub side_of : Option (List ℕ) → Option (List ℕ) → Option Side
side_of (Some program) (Some config) = Some (record { program = program; config = config })
side_of program config = None

abbrev pub sync_of : Option Side → Option Side → Option (List ℕ) → Option (List ℕ) → Option ℕ → Option Asked
sync_of (Some source) (Some dest) (Some catalog) (Some state) (Some attempts) = Some (Sync source.program source.config dest.program dest.config catalog state attempts)
sync_of source dest catalog state attempts = None

abbrev pub sync_options : List (List ℕ)
sync_options = codes "--source" ∷ codes "--source-config" ∷ codes "--dest" ∷ codes "--dest-config" ∷ codes "--catalog" ∷ codes "--state" ∷ codes "--attempts" ∷ []

abbrev pub sync_asked : List (List ℕ) → Option Asked
sync_asked words =
    if are_pairs_of sync_options words
    then sync_of
    (side_of (value_of (codes "--source") words) (value_of (codes "--source-config") words))
    (side_of (value_of (codes "--dest") words) (value_of (codes "--dest-config") words))
    (value_of (codes "--catalog") words) (value_of (codes "--state") words) (attempts_said (value_of (codes "--attempts") words))
    else None

abbrev pub spec_of : Option (List ℕ) → Option Asked
spec_of (Some program) = Some (Spec program)
spec_of None = None

abbrev pub spec_asked : List (List ℕ) → Option Asked
spec_asked words = if are_pairs_of (codes "--program" ∷ []) words then spec_of (value_of (codes "--program") words) else None

abbrev pub program_asked : List (List ℕ) → Option Side
program_asked words =
    if are_pairs_of (codes "--program" ∷ codes "--config" ∷ []) words then side_of (value_of (codes "--program") words) (value_of (codes "--config") words) else None

abbrev pub check_of : Option Side → Option Asked
check_of (Some side) = Some (Check side.program side.config)
check_of None = None

abbrev pub discover_of : Option Side → Option Asked
discover_of (Some side) = Some (Discover side.program side.config)
discover_of None = None

abbrev pub made_of : Option ℕ → Option ℕ → Option Asked
made_of (Some rows) (Some workers) = Some (Made rows workers)
made_of rows workers = None

abbrev pub made_asked : List (List ℕ) → Option Asked
made_asked words =
    if are_pairs_of (codes "--rows" ∷ codes "--workers" ∷ []) words
    then made_of (number_said 1 1000000 (value_of (codes "--rows") words)) (number_said 1 16 (value_of (codes "--workers") words))
    else None

-- what the worker's words ask for, None where they have another form
abbrev pub asked : List (List ℕ) → Option Asked
asked [] = None
asked (command ∷ words) =
    if bytes_eq command (codes "local") then local_asked words
    else if bytes_eq command (codes "sync") then sync_asked words
    else if bytes_eq command (codes "spec") then spec_asked words
    else if bytes_eq command (codes "check") then check_of (program_asked words)
    else if bytes_eq command (codes "discover") then discover_of (program_asked words)
    else if bytes_eq command (codes "made") then made_asked words
    else None
