use Rattle.std.proofs.Common.{codes}
use Rattle.column_types.proofs.KindLemmas.{no_object_type}
use Rattle.column_types.proofs.property.kind_of.Goals as goal

pub returns-in-None : goal.returns-in-None
returns-in-None c =
    let none = rw c.in-None.is at c.in_ok-members.ensures.none in
    let text = c.args.property.now in
    record {
      string = no_object_type text (codes "string") none;
      boolean = no_object_type text (codes "boolean") none;
      integer = no_object_type text (codes "integer") none;
      number = no_object_type text (codes "number") none;
    }
