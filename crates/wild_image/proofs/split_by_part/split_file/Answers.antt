use Rattle.wild_image.proofs.Common.{◌++◌, ℕ, IfOk-weaker, file_sections, trailer_bytes}
use Rattle.wild_image.specs.Pieces.{sections_owned, trailer_in, thunks_in}
use Rattle.wild_image.proofs.AppendLemmas.{thunks_written, both_begin, both_go_on, both_end}
use Rattle.wild_image.proofs.OwnedLemmas.{owned_twice}
use Rattle.wild_image.proofs.split_by_part.split_file.Goals as goal

pub split_sections-requires-clause-own : goal.split_sections-requires-clause-own
split_sections-requires-clause-own c = both_begin (file_sections c.args.layout.now c.args.file.now) (trailer_bytes c.args.layout.now c.args.file.now ++ thunks_written c.args.layout.now c.args.file.now) c.args.bytes.now c.requires.own

pub split_trailer-requires-clause-own : goal.split_trailer-requires-clause-own
split_trailer-requires-clause-own c =
    both_begin (trailer_bytes c.args.layout.now c.args.file.now) (thunks_written c.args.layout.now c.args.file.now) _
    (both_go_on (file_sections c.args.layout.now c.args.file.now) (trailer_bytes c.args.layout.now c.args.file.now ++ thunks_written c.args.layout.now c.args.file.now) c.args.bytes.now _ c.requires.own c.in_ok-behind.ensures.rest)

pub split_thunks-requires-clause-own : goal.split_thunks-requires-clause-own
split_thunks-requires-clause-own c =
    both_go_on (trailer_bytes c.args.layout.now c.args.file.now) (thunks_written c.args.layout.now c.args.file.now) _ _
    (both_go_on (file_sections c.args.layout.now c.args.file.now) (trailer_bytes c.args.layout.now c.args.file.now ++ thunks_written c.args.layout.now c.args.file.now) c.args.bytes.now _ c.requires.own c.in_ok-behind.ensures.rest) c.in_ok-rest.ensures.rest

pub returns-clause-owned : goal.returns-clause-owned
returns-clause-owned c =
    let l = c.args.layout.now in
    let f = c.args.file.now in
    let behind = owned_twice c.split_thunks.result (λ (k : ℕ). trailer_in l k f) (λ (k : ℕ). thunks_in l k f) c.split_sections.new.parts c.split_trailer.new.parts c.split_thunks.new.parts c.split_trailer.auto.parts c.in_ok-rest.ensures.owned c.split_thunks.ensures.owned in
    owned_twice c.split_thunks.result (λ (k : ℕ). sections_owned l k f) (λ (k : ℕ). trailer_in l k f ++ thunks_in l k f) c.args.parts.now c.split_sections.new.parts c.split_thunks.new.parts c.split_sections.auto.parts c.in_ok-behind.ensures.owned behind

pub returns-clause-rest : goal.returns-clause-rest
returns-clause-rest c =
    let l = c.args.layout.now in
    let f = c.args.file.now in
    IfOk-weaker c.split_thunks.result _ _ (λ r h.
    both_end (file_sections l f) (trailer_bytes l f ++ thunks_written l f) c.args.bytes.now _ r.now c.in_ok-behind.ensures.rest
    (both_end (trailer_bytes l f) (thunks_written l f) _ _ r.now c.in_ok-rest.ensures.rest h)) c.split_thunks.ensures.rest
