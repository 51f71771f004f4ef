-- The names that many proofs of this crate cite, passed on from one place. Declares nothing.
pub use Rattle.std.proofs.lemmas.Bool.{and_parts, cases_Bool, eqb-true}
pub use Rattle.std.proofs.lemmas.List.{append-nil, append_assoc, length-append}
pub use Rattle.std.proofs.lemmas.List.Elements.{All-append, All-cons, All-head, All-nil, All-tail, All-weaker}
pub use Rattle.std.specs.List.{flat_map}
pub use Rattle.std.specs.Prelude.{All, Bool, Contains, Err, List, None, Ok, Option, Result, Some, [], drop, false, get_or, if◌then◌else◌, is_some, length, min, nat_lt, not, option_to_list, replicate, slice_get, slice_range, suc, true, unwrap_or, zero, ℕ, ◌%◌, ◌&&◌, ◌*◌, ◌++◌, ◌+◌, ◌-◌, ◌<◌, ◌==◌, ◌^◌, ◌∷◌, ◌≡◌, ◌≢◌, ◌≤◌, ◌⊎◌}
pub use Rattle.wild_layout.specs.SlotOrder.{HasSlotsInOrder}
pub use Rattle.wild_layout.specs.TablePlaces.{table_bytes}
pub use Rattle.wild_needs.specs.SlotShares.{header_words, stub_size, symbol_share, words_in}
pub use Rattle.wild_plan_rules.specs.SlotPlaces.{first_free, start_of}
pub use Rattle.wild_relr.proofs.SpellLemmas.{length-word_bytes}
unfoldable pub use Rattle.wild_relr.specs.RunWords.{slots}
pub use Rattle.wild_relr.specs.WriterState.{word_bytes}
pub use Rattle.wild_slot.specs.MachineStub.{distance_if_too_far}
pub use Rattle.wild_slot.specs.SlotParts.{at_places, begins_relr_got, next, slot_words, word_of}
pub use Rattle.wild_slot.specs.Slots.{add_item, address_items, items_at, no_slot, plain_item, setting_of, stub_items, thread_items, with_items}
unfoldable pub use Rattle.wild_slot.specs.Slots.{slot}
pub use Rattle.wild_slot.specs.SymbolWords.{resolved_slots}
unfoldable pub use Rattle.wild_slot.specs.SymbolWords.{slots_of}
pub use Rattle.wild_slot.specs.declared.slot.Setting.{Setting}
pub use Rattle.wild_slot.specs.declared.slot.SlotItem.{SlotItem}
pub use Rattle.wild_slot.specs.declared.slot.SlotItem.TheVariants.{Fault, Stub, Word}
pub use Rattle.wild_slot.specs.declared.slot.SlotWord.{SlotWord}
pub use Rattle.wild_slot.specs.declared.slot.SlotWord.TheVariants.{Address, General, InRelrGot, Number, Plt}
pub use Rattle.wild_slots.specs.AscendingPlaces.{Ascend, place_in, word_places}
pub use Rattle.wild_slots.specs.Order.{group_symbols, written_symbols}
pub use Rattle.wild_types.specs.FileSymbols.{own_symbols}
pub use Rattle.wild_types.specs.Flags.{has_flag, ifunc}
pub use Rattle.wild_types.specs.Kinds.{is_position_independent}
pub use Rattle.wild_types.specs.Lists.{total}
pub use Rattle.wild_types.specs.ResolvedFlags.{HasItsFlags}
pub use Rattle.wild_types.specs.SymbolSlots.{got_of, has_thread_slot, plt_of, resolved_got, slots_address}
pub use Rattle.wild_types.specs.declared.file.File.{File}
pub use Rattle.wild_types.specs.declared.file.Group.{Group}
pub use Rattle.wild_types.specs.declared.layout.Layout.{Layout}
pub use Rattle.wild_types.specs.declared.part.Role.{Role}
pub use Rattle.wild_types.specs.declared.symbol.Resolution.{Resolution}
pub use Rattle.wild_types.specs.declared.symbol.Symbol.{Symbol}
pub use Rattle.wild_words.proofs.ListLemmas.{All-flat_map, holds_at}
pub use mathlib.Core.Logic.{inl, inr}
pub use mathlib.Core.Path.{ap, refl, subst, sym, ◌∙◌}
pub use native.Mathlib.Omega.{arith}
