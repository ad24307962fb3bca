-- States that are laid out over several lines, as a program that indents JSON does: a state stands on one line.
use Rattle.std.specs.Prelude.{ℕ, List, ◌==◌, if◌then◌else◌}
use Rattle.std.specs.List.{list_any}
use Rattle.json_squeeze.specs.Squeeze.{squeezed}

-- the text as it stands, or without its white space where it has a line feed
abbrev pub on_one_line : List ℕ → List ℕ
on_one_line text = if list_any (λ byte. byte == 10) text then squeezed text else text
