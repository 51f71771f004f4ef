-- The symbols of sections, written one after another.
use Rattle.std.proofs.Common.{◌≡◌, ℕ, List, [], ◌∷◌, map, refl, sym, ap, ◌∙◌, subst, Ok, Err, Result}
use Rattle.std.proofs.Common.{Bool, true, false, if◌then◌else◌}
use Rattle.wild_types.specs.declared.fault.Error.{Error}
use Rattle.wild_words.specs.Runs.{SinkRun, none, more, stop}
use Rattle.wild_symbols.specs.TableRoom.{first_fault}
use Rattle.wild_table_formats.specs.TableEntries.{NamedEntry, section_entry}
use Rattle.wild_symbols.specs.Runs.{is_ok, after_call}
use Rattle.wild_symbols.specs.SlotNames.{entry_result, after_entry, entries_result, after_entries}
use Rattle.wild_symbols.specs.SectionCalls.{section_call, SectionWritten, SectionRefused}
use Rattle.wild_symbols.specs.declared.writer.SymbolTableWriter.{SymbolTableWriter}

-- one symbol, written or not, is a run
pub one_written : (a b : SymbolTableWriter) (k : ℕ) → Ok tt ≡ entry_result (section_call k) a → b ≡ after_call (section_entry k) a → SinkRun SectionWritten SectionRefused a (k ∷ []) (Ok tt) b
one_written a b k h is = more (record { fits = sym h; is = is }) none

pub one_refused : (a b : SymbolTableWriter) (k : ℕ) (e : Error) → Err e ≡ entry_result (section_call k) a → b ≡ a → SinkRun SectionWritten SectionRefused a (k ∷ []) (Err e) b
one_refused a b k e h is = stop (record { fault = sym h; kept = is })

pub ruleset one_section = (one_written, one_refused)

-- what is asked of the first of several calls
offered_on : {X : Type 0} (o : Result (Unit {0}) Error) (r : Result X Error) (s : Result (Unit {0}) Error) → o ≡ Ok tt → s ≡ first_fault (Ok tt) r → s ≡ first_fault o r
offered_on o r s h e = rw h e

ok_after : (r : Result (Unit {0}) Error) → r ≡ first_fault (Ok (tt {0})) r
ok_after (Ok t) = refl
ok_after (Err e) = refl

pub run_answered : {a b : SymbolTableWriter} {ks : List ℕ} {r : Result (Unit {0}) Error} → SinkRun SectionWritten SectionRefused a ks r b → r ≡ entries_result (map section_call ks) a
run_answered none = refl
run_answered {a = a} {r = r} (more {b = b} {x = k} {xs = ks} h t) =
    let rest : r ≡ entries_result (map section_call ks) (after_call (section_entry k) a) = subst (λ (w : SymbolTableWriter). r ≡ entries_result (map section_call ks) w) h.is (run_answered t) in
    offered_on (entry_result (section_call k) a) (entries_result (map section_call ks) (after_call (section_entry k) a)) r h.fits (rest ∙ ok_after (entries_result (map section_call ks) (after_call (section_entry k) a)))
run_answered {a = a} (stop {x = k} {xs = ks} h) = rw h.fault refl

-- what is left of the first of several calls
left_on : (o : Result (Unit {0}) Error) (w a b : SymbolTableWriter) → o ≡ Ok tt → b ≡ w → b ≡ (if is_ok o then w else a)
left_on o w a b h e = rw h e

left_out : (o : Result (Unit {0}) Error) (w a b : SymbolTableWriter) (e : Error) → o ≡ Err e → b ≡ a → b ≡ (if is_ok o then w else a)
left_out o w a b e h is = rw h is

pub run_left : {a b : SymbolTableWriter} {ks : List ℕ} {r : Result (Unit {0}) Error} → SinkRun SectionWritten SectionRefused a ks r b → b ≡ after_entries (map section_call ks) a
run_left none = refl
run_left {a = a} {b = c} (more {b = b} {x = k} {xs = ks} h t) =
    let rest : c ≡ after_entries (map section_call ks) (after_call (section_entry k) a) = subst (λ (w : SymbolTableWriter). c ≡ after_entries (map section_call ks) w) h.is (run_left t) in
    left_on (entry_result (section_call k) a) (after_entries (map section_call ks) (after_call (section_entry k) a)) a c h.fits rest
run_left {a = a} {b = b} (stop {x = k} {xs = ks} {e = e} h) = left_out (entry_result (section_call k) a) (after_entries (map section_call ks) (after_call (section_entry k) a)) a b e h.fault h.kept

pub ruleset sections_written = (run_answered, run_left)
