use Rattle.std.proofs.Common.{◌-◌, length, get_or, ap, ◌∙◌, rules}
use Rattle.readers.specs.Stream.{fnv_step}
use Rattle.readers.proofs.Hashing.{fnv_from_last}
use Rattle.readers.proofs.stream.+hash.Goals as goal

pub returns-in-len1-up : goal.returns-in-len1-up
returns-in-len1-up t c =
    let key = c.args.key.now in
    c.hash_byte.ensures
    ∙ ap (λ h. fnv_step h (get_or key (length key - 1) 0)) c.hash.ensures
    ∙ fnv_from_last c.args.basis key (search rules)
