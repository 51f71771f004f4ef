use Rattle.wild_placer.proofs.PlainLayoutLemmas.{plain_loaded}
use Rattle.wild_placer.proofs.laws.plain_layouts_are_loaded.Goals as goal

pub returns : goal.returns
returns c = plain_loaded c.layouts_are_laid_out.ensures c.headers_are_present.ensures.stand c.file_header_is_read.ensures c.program_header_is_read.ensures c.section_header_is_read.ensures
