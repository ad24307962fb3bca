use Rattle.std.proofs.Common.{ℕ, List, Option, sym, ap, subst}
use Rattle.std.specs.Option.{option_copied}
use Rattle.json_fields.specs.Answer.{IsAnswer}
use Rattle.json_fields.proofs.PartLemmas.{count_answer}
use Rattle.dest_config.specs.Config.{Says}
use Rattle.dest_config.proofs.ConfigLemmas.{text_says}
use Rattle.dest_config.proofs.config.said.Goals as goal

pub returns-in-Some : goal.returns-in-Some
returns-in-Some c =
    let known = c.whole_of.ensures in
    subst (λ (number : Option (List ℕ)). IsAnswer (Says c.args.usual number) c.whole_of.result) (sym (ap option_copied c.in-Some.is))
    (text_says c.args.usual c.in-Some.text.now c.whole_of.result (count_answer c.in-Some.text.now c.whole_of.result known.found known.small known.only known.none))
