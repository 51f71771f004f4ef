-- Symbols that another module's may stand for.
use Rattle.wild_meaning.proofs.Common.{◌≡◌, inl, inr, Bool, true, false, refl, arith, ◌&&◌, ◌||◌, not, OutputKind, has_flag, may_be_replaced, shared_layout, shared_world, open_symbol}
use Rattle.wild_types.specs.declared.kind.OutputKind.TheVariants as output
use Rattle.wild_types.specs.declared.symbol.ValueFlags.{ValueFlags}
use Rattle.wild_types.specs.Flags.{dynamic, copy_relocation, export_dynamic, non_interposable}
use Rattle.wild_meaning.specs.Worked.ReplaceableSymbols.{DynamicIsReplaceable, ExportedIsReplaceable, AnswersAreTaken}
use Rattle.wild_meaning.proofs.SymbolUnique.{other_value}
use Rattle.wild_meaning.proofs.SharedRefused.{open_is}

by_dynamic : (kind : OutputKind) (f : ValueFlags) → has_flag f dynamic ≡ true → has_flag f copy_relocation ≡ false → may_be_replaced kind f ≡ true
by_dynamic kind f d c = rw (d, c) refl

by_export : (kind : OutputKind) (f : ValueFlags) → kind ≡ output.SharedObject → has_flag f export_dynamic ≡ true → has_flag f non_interposable ≡ false → may_be_replaced kind f ≡ true
by_export kind f k e n = rw (k, e, n) (always (has_flag f dynamic) (has_flag f copy_relocation))
  where
    always : (a b : Bool) → ((a && not b) || true) ≡ true
    always true true = refl
    always true false = refl
    always false b = refl

pub dynamic_replaceable : DynamicIsReplaceable
dynamic_replaceable l i s listed own d c = record { definition = i; defined = record { symbol = s; listed = listed; defined = inr (own, refl) }; symbol = s; listed = listed; told = by_dynamic l.kind s.flags d c }

pub exported_replaceable : ExportedIsReplaceable
exported_replaceable l i s listed own k e n = record { definition = i; defined = record { symbol = s; listed = listed; defined = inr (own, refl) }; symbol = s; listed = listed; told = by_export l.kind s.flags k e n }

pub answers_taken : AnswersAreTaken
unfolding has_flag
answers_taken = record {
  value = inl (
    record { definition = 1; defined = record { symbol = open_symbol; listed = refl; defined = inr (refl, refl) }; symbol = open_symbol; listed = refl; told = refl },
    _,
    record { definition = 1; defined = record { symbol = open_symbol; listed = refl; defined = inr (refl, refl) }; symbol = open_symbol; listed = refl; resolution = _; decided = refl; index = 1; told = refl; given = refl },
    refl,
  );
  not_own = λ h. let e = other_value shared_layout shared_world 1 0x11110 _ open_is h in omega (arith, e);
}
