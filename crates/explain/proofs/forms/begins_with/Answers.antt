use Rattle.std.proofs.Common.{length, drop}
use Rattle.std.proofs.lemmas.Bool.Decides.{Decides-eqb}
use Rattle.std.proofs.lemmas.Slice.Eq.{starts_is}
use Rattle.explain.proofs.forms.begins_with.Goals as goal

pub returns : goal.returns
returns c =
    let front = c.args.front.now in
    let bytes = c.args.bytes.now in
    λ yes. (drop (length front) bytes, (starts_is Decides-eqb bytes front c.starts_with.result c.starts_with.ensures.value).0 yes)
