-- The first clause of a well-formed layout that fails.
--   first_clause l   Ok, or the first clause that fails with the place of the first item that fails it
use Rattle.std.specs.Prelude.{Result}
use Rattle.wild_types.specs.declared.fault.Clause.{Clause}
use Rattle.wild_types.specs.declared.layout.Layout.{Layout}
use Rattle.wild_plan_rules.specs.ClauseTests.{first_error, check_sizes, check_counts, check_order, check_roles, check_sections, check_segments, check_shares, check_inputs, check_indexes, check_fields, check_slots, check_thunks, check_dynsyms, check_slot_flags, check_tls, check_starts, check_hashes, check_versions, check_names, check_reversed, check_partial, check_fronts}

-- Ok, or the first clause that fails
unfoldable pub first_clause : Layout → Result (Unit {0}) Clause
first_clause l =
    first_error (check_sizes l)
    (first_error (check_counts l)
    (first_error (check_order l)
    (first_error (check_roles l)
    (first_error (check_sections l)
    (first_error (check_segments l)
    (first_error (check_shares l)
    (first_error (check_inputs l)
    (first_error (check_indexes l)
    (first_error (check_fields l)
    (first_error (check_slots l)
    (first_error (check_thunks l)
    (first_error (check_dynsyms l)
    (first_error (check_slot_flags l)
    (first_error (check_tls l)
    (first_error (check_starts l)
    (first_error (check_hashes l)
    (first_error (check_versions l)
    (first_error (check_names l)
    (first_error (check_reversed l)
    (first_error (check_partial l)
    (check_fronts l)))))))))))))))))))))
