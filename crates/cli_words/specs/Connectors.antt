-- What the words of a source or a destination ask for.
use Rattle.std.specs.Prelude.{ℕ, List, [], ◌∷◌, if◌then◌else◌, Option, None, Some, codes}
use Rattle.std.specs.Str.{bytes_eq}
use Rattle.cli_words.specs.Pairs.{value_of, are_pairs_of}

pub data SourceAsked : Type 0 where
  Spec : SourceAsked
  Check : (config : List ℕ) → SourceAsked
  Discover : (config : List ℕ) → SourceAsked
  Read : (config catalog : List ℕ) (state : Option (List ℕ)) → SourceAsked

abbrev pub spec_asked : List (List ℕ) → Option SourceAsked
spec_asked [] = Some Spec
spec_asked (word ∷ words) = None

-- the configuration, where it is all that stands behind the command
abbrev pub config_asked : List (List ℕ) → Option (List ℕ)
config_asked words = if are_pairs_of (codes "--config" ∷ []) words then value_of (codes "--config") words else None

abbrev pub check_of : Option (List ℕ) → Option SourceAsked
check_of (Some config) = Some (Check config)
check_of None = None

abbrev pub discover_of : Option (List ℕ) → Option SourceAsked
discover_of (Some config) = Some (Discover config)
discover_of None = None

abbrev pub read_of : Option (List ℕ) → Option (List ℕ) → Option (List ℕ) → Option SourceAsked
read_of (Some config) (Some catalog) state = Some (Read config catalog state)
read_of config catalog state = None

abbrev pub read_asked : List (List ℕ) → Option SourceAsked
read_asked words =
    if are_pairs_of (codes "--config" ∷ codes "--catalog" ∷ codes "--state" ∷ []) words
    then read_of (value_of (codes "--config") words) (value_of (codes "--catalog") words) (value_of (codes "--state") words)
    else None

-- what a source's words ask for, None where they have another form
abbrev pub source_asked : List (List ℕ) → Option SourceAsked
source_asked [] = None
source_asked (command ∷ words) =
    if bytes_eq command (codes "spec") then spec_asked words
    else if bytes_eq command (codes "check") then check_of (config_asked words)
    else if bytes_eq command (codes "discover") then discover_of (config_asked words)
    else if bytes_eq command (codes "read") then read_asked words
    else None

-- Destinations

pub data DestAsked : Type 0 where
  DestSpec : DestAsked
  DestCheck : (config : List ℕ) → DestAsked
  DestWrite : (config catalog : List ℕ) → DestAsked

abbrev pub dest_spec_asked : List (List ℕ) → Option DestAsked
dest_spec_asked [] = Some DestSpec
dest_spec_asked (word ∷ words) = None

abbrev pub dest_check_of : Option (List ℕ) → Option DestAsked
dest_check_of (Some config) = Some (DestCheck config)
dest_check_of None = None

abbrev pub write_of : Option (List ℕ) → Option (List ℕ) → Option DestAsked
write_of (Some config) (Some catalog) = Some (DestWrite config catalog)
write_of config catalog = None

abbrev pub write_asked : List (List ℕ) → Option DestAsked
write_asked words =
    if are_pairs_of (codes "--config" ∷ codes "--catalog" ∷ []) words then write_of (value_of (codes "--config") words) (value_of (codes "--catalog") words) else None

-- what a destination's words ask for, None where they have another form
abbrev pub dest_asked : List (List ℕ) → Option DestAsked
dest_asked [] = None
dest_asked (command ∷ words) =
    if bytes_eq command (codes "spec") then dest_spec_asked words
    else if bytes_eq command (codes "check") then dest_check_of (config_asked words)
    else if bytes_eq command (codes "write") then write_asked words
    else None
