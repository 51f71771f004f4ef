use Rattle.wild_reloc.proofs.PlaceLemmas.{put_mid-written}
use Rattle.wild_reloc.proofs.info.RelocationSize.write_at.Goals as goal

pub returns : goal.returns
returns c = put_mid-written c.args.self.now c.args.value c.args.at c.width.result c.args.out.now c.write.new.buf c.width.ensures.width c.requires.room c.write.ensures
