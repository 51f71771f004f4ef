-- Laws of the files of symbols.
use Rattle.std.proofs.Common.{◌≡◌, ℕ, ◌<◌, inl, inr, true, List, length, get_or, refl, sym, ◌∙◌, arith}
use Rattle.std.specs.Prelude.{Option, Some, None, option_map, slice_get}
use Rattle.std.proofs.lemmas.Bool.{cases_lt}
use Rattle.std.proofs.lemmas.Option.{slice_get_past}
use Rattle.std.proofs.lemmas.List.{get_or_read}
use Rattle.wild_types.specs.declared.symbol.Symbol.{Symbol}
use Rattle.wild_types.specs.declared.file.File.{File}
use Rattle.wild_types.specs.declared.layout.Layout.{Layout}
use Rattle.wild_types.specs.Kinds.{needs_dynsym}
use Rattle.wild_types.specs.Lookups.{files_of, file_of}
use Rattle.wild_sections.specs.declared.file_of_symbol.SymbolFile.{SymbolFile}
use Rattle.wild_symbols.specs.SymbolNumbers.{found}
use Rattle.wild_sections.specs.SymbolFiles.{symbol_file_of, symbol_file_in, HasSymbolFiles}

none_found : (l : Layout) (i : ℕ) (o : Option File) → None ≡ option_map (symbol_file_in l i) o → o ≡ None
none_found l i None h = refl
none_found l i (Some f) h = cc

some_found : (l : Layout) (i : ℕ) (o : Option File) (s : Symbol) (h : SymbolFile) → slice_get l.symbols i ≡ Some s → Some h ≡ option_map (symbol_file_in l i) o → h ≡ symbol_file_of l s.place o
some_found l i None s h at e = cc
some_found l i (Some f) s h at e = let p : Some h ≡ Some (symbol_file_in l i f) = e in cc (rw at at p)

is_there : (l : Layout) (i : ℕ) (s : Symbol) → slice_get l.symbols i ≡ Some s → i < length l.symbols
is_there l i s at = elim (cases_lt i (length l.symbols)) [
  | inl low ↦ low
  | inr past ↦ (let none = slice_get_past l.symbols i past in let e : None ≡ Some s = sym none ∙ at in cc e)
]

-- the symbol has an entry
pub symbol_file_below : (l : Layout) (symbol_files : List (Option SymbolFile)) (i : ℕ) (s : Symbol) → HasSymbolFiles l symbol_files → needs_dynsym l.kind ≡ true → slice_get l.symbols i ≡ Some s → i < length symbol_files
symbol_file_below l symbol_files i s has table at = let n = has.count table in let m = is_there l i s at in omega (arith, n, m)

entry_is : (l : Layout) (symbol_files : List (Option SymbolFile)) (i : ℕ) (s : Symbol) (x : Option SymbolFile) → HasSymbolFiles l symbol_files → needs_dynsym l.kind ≡ true → slice_get l.symbols i ≡ Some s → x ≡ get_or symbol_files i x → x ≡ found (symbol_file_in l) (files_of l.groups) i
entry_is l symbol_files i s x has table at read =
    let below = symbol_file_below l symbol_files i s has table at in
    get_or_read symbol_files i x below read None ∙ has.all table i below

pub symbol_file_there : (l : Layout) (symbol_files : List (Option SymbolFile)) (i : ℕ) (s : Symbol) (x : Option SymbolFile) (h : SymbolFile) → HasSymbolFiles l symbol_files → needs_dynsym l.kind ≡ true → slice_get l.symbols i ≡ Some s → x ≡ get_or symbol_files i x → x ≡ Some h → h ≡ symbol_file_of l s.place (file_of (files_of l.groups) i)
symbol_file_there l symbol_files i s x h has table at read is = some_found l i (file_of (files_of l.groups) i) s h at (sym is ∙ entry_is l symbol_files i s x has table at read)

pub symbol_file_missing : (l : Layout) (symbol_files : List (Option SymbolFile)) (i : ℕ) (s : Symbol) (x : Option SymbolFile) → HasSymbolFiles l symbol_files → needs_dynsym l.kind ≡ true → slice_get l.symbols i ≡ Some s → x ≡ get_or symbol_files i x → x ≡ None → file_of (files_of l.groups) i ≡ None
symbol_file_missing l symbol_files i s x has table at read is = none_found l i (file_of (files_of l.groups) i) (sym is ∙ entry_is l symbol_files i s x has table at read)
