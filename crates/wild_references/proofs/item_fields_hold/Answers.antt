use Rattle.wild_references.proofs.WholeSections.{item_fields_hold}
use Rattle.wild_references.proofs.item_fields_hold.Goals as goal

pub returns : goal.returns
returns c =
    item_fields_hold
    (record { agree = c.machines_have_their_facts.ensures.rows; widths = c.widths_of_fields.ensures })
    (record {
      symbol = c.symbols_are_given.ensures.gives;
      stub = c.stubs_are_given.ensures.gives;
      stands = c.stubs_are_given.ensures.stand;
      thunk = c.thunks_are_given.ensures;
      slot = c.slots_are_given.ensures;
      part = c.parts_are_given.ensures.gives;
      table = c.distances_of_the_table_are_given.ensures;
      size = c.sizes_are_given.ensures;
      pointer = c.offsets_from_the_thread_pointer_are_given.ensures.gives;
      own = c.offsets_in_the_module_are_given.ensures.gives;
      address = c.addresses_are_given.ensures.gives;
      entry = c.entries_are_given.ensures;
    })
    (record {
      symbol = c.symbols_are_given.ensures.linked;
      part = c.parts_are_given.ensures.linked;
      pointer = c.offsets_from_the_thread_pointer_are_given.ensures.linked;
      own = c.offsets_in_the_module_are_given.ensures.linked;
      address = c.addresses_are_given.ensures.linked;
    })
    c.thunks_jump_to_targets.ensures
