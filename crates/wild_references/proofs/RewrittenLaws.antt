-- Instructions that are rewritten hold, and so do the calls that they take along, by the machine.
use Rattle.wild_references.proofs.Common.{refl, Partner}
use Rattle.wild_types.specs.declared.kind.Machine.TheVariants as machine
use Rattle.wild_references.specs.EffectLaws.{RewrittenAreInstructions, RewrittenHold, PartnersHold}
use Rattle.wild_references.proofs.WordWindows.{no_partner_there}
use Rattle.wild_references.proofs.RewrittenPlaces.{LawsBelow}
use Rattle.wild_references.proofs.RewrittenWhole.{instruction_stands, instruction_holds, partner_holds}
use Rattle.wild_references.proofs.RewrittenAArch64.{LawsOfWords, word_stands, word_holds}

pub rewritten_stand : LawsBelow → LawsOfWords → RewrittenAreInstructions
rewritten_stand laws words machine.X86_64 l w m s g i r row v has = instruction_stands laws l w m s g i r row v has
rewritten_stand laws words machine.AArch64 l w m s g i r row v has = word_stands words.alone l s i r row v g.on g.decided has

pub rewritten_hold : LawsBelow → LawsOfWords → RewrittenHold
rewritten_hold laws words machine.X86_64 l w m s g i r row v has present asked = instruction_holds laws l w m s g i r row v has present asked
rewritten_hold laws words machine.AArch64 l w m s g i r row v has present asked = word_holds words l w m s g i r row v has present

pub partners_hold : LawsBelow → PartnersHold
partners_hold laws machine.X86_64 l w m s g i r has present = partner_holds laws l w m s g i r has present
partners_hold laws machine.AArch64 l w m s g i r has present = absurd (no_partner_there l s i r Partner g.on has refl)
