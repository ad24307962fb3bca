-- What comes out of the pipe to the destination is taken as it was given.
use Rattle.std.proofs.Common.{◌≡◌, inl, inr, ℕ, List, [], ◌∷◌, ◌++◌, Option, None, Some, refl, sym, ◌∙◌, ap, subst, append_assoc}
use Rattle.std.specs.Prelude.{filter_map}
use Rattle.std.proofs.lemmas.List.{append-nil}
use Rattle.std.proofs.lemmas.List.Elements.{filter_map-append}
use Rattle.json_fields.specs.Answer.{IsAnswer}
use Rattle.outside.specs.declared.event.Event.{Event}
use Rattle.airbyte_message.specs.Messages.{IsMessage}
use Rattle.airbyte_message.specs.declared.message.Message.{Message}
use Rattle.load_rules.specs.Lines.{Reading}
use Rattle.load_rules.specs.Loads.{tooks}
use Rattle.load_rules.specs.Attempts.{gives}
use Rattle.load_rules.specs.Engine.{TakesGiven}
use Rattle.load_rules.specs.Laws.{PipedAreTaken}
use Rattle.load_rules.proofs.EchoFronts.{front_reads}

whole_taken : (read : Reading) (before : List Event) (text : List ℕ) (rest : List (List ℕ)) → gives before ≡ tooks before ++ text ∷ rest → TakesGiven read before text
whole_taken read before text rest are = (filter_map read rest, ap (filter_map read) (are ∙ sym (append_assoc (tooks before) (text ∷ []) rest)) ∙ filter_map-append read (tooks before ++ text ∷ []) rest)

none_taken : (read : Reading) (before : List Event) (text : List ℕ) (more : List (List ℕ)) → read text ≡ None → gives before ≡ tooks before ++ more → TakesGiven read before text
none_taken read before text more none are =
    (filter_map read more, ap (filter_map read) are ∙ (filter_map-append read (tooks before) more ∙ ap (λ list. list ++ filter_map read more) (sym (filter_map-append read (tooks before) (text ∷ []) ∙ (ap (λ list. filter_map read (tooks before) ++ list) (nothing text none) ∙ append-nil (filter_map read (tooks before)))))))
  where
    nothing : (text : List ℕ) → read text ≡ None → filter_map read (text ∷ []) ≡ []
    nothing text none = rw none refl

pub piped_are_taken : PipedAreTaken
piped_are_taken read before text reads came (inl same) = whole_taken read before text came.rest (subst (λ line. gives before ≡ tooks before ++ line ∷ came.rest) (sym same) came.are)
piped_are_taken read before text reads came (inr ends) = at (read text) refl
  where
    at : (found : Option Message) → read text ≡ found → TakesGiven read before text
    at None is = none_taken read before text (came.next ∷ came.rest) is came.are
    at (Some content) is =
        let same = front_reads text came.next content ends came.front (subst (IsAnswer (IsMessage text)) is reads).is in
        whole_taken read before text came.rest (subst (λ line. gives before ≡ tooks before ++ line ∷ came.rest) (sym same) came.are)
