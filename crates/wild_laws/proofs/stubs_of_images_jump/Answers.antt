use Rattle.wild_laws.proofs.Stubs.{images_stubs}
use Rattle.wild_laws.proofs.stubs_of_images_jump.Goals as goal

pub returns : goal.returns
returns c = images_stubs c.layouts_are_laid_out.ensures c.parts_are_loaded.ensures c.slots_are_there.ensures c.images_are_loaded.ensures c.outputs_move_by_pages.ensures.pages c.stubs_jump_to_slots.ensures.jump
