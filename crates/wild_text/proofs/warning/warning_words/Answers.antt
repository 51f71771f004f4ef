use Rattle.std.proofs.Common.{append_assoc, false, string_bytes}
use Rattle.std.specs.Prelude.{codes}
use Rattle.std.specs.Fmt.{digits}
use Rattle.wild_text.proofs.warning.warning_words.Goals as goal

pub returns-in_ok-text-in-Defaulted : goal.returns-in_ok-text-in-Defaulted
returns-in_ok-text-in-Defaulted c =
    rw (c.in-Defaulted.is, ← c.in_ok-name-in-Defaulted.ensures, append_assoc (string_bytes c.in_ok-name-in-Defaulted.name) (codes "`, defaulting to 0x") (digits 16 false c.in-Defaulted.address))
    (rw c.in_radix.ensures at c.in_ok-text-in-Defaulted.ensures.ok)

pub returns-in_ok-text-in-EmptyText : goal.returns-in_ok-text-in-EmptyText
returns-in_ok-text-in-EmptyText c = rw (c.in-EmptyText.is, ← c.in_ok-name-in-EmptyText.ensures) c.in_ok-text-in-EmptyText.ensures.ok
