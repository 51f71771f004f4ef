-- How many bytes the hash tables of the dynamic symbols have.
use Rattle.wild_geometry.proofs.Common.{◌≡◌, length, map, refl, arith, Option, Some, None, length-append, length-map, File, DynamicSymbol, Layout, first_listed, is_epilogue, files_of}
use Rattle.wild_words.proofs.Basics.{length-if_both}
use Rattle.wild_types.specs.declared.layout.SysvHash.{SysvHash}
use Rattle.wild_types.specs.declared.layout.GnuHash.{GnuHash}
use Rattle.wild_needs.specs.DynamicSymbols.{undefined_entries, listed}
use Rattle.wild_types.specs.Kinds.{needs_dynsym}
use Rattle.wild_needs.specs.Needs.{sysv_room, gnu_room, last_dynamic}
use Rattle.wild_hashes.specs.Tables.{sysv_hash_of, gnu_hash_of, gnu_header}
use Rattle.wild_hashes.proofs.TableLemmas.{length-sysv_table, length-gnu_table}
use Rattle.wild_layout.specs.Content.{sysv_bytes, gnu_bytes, of_last}

length-sysv_bytes : (l : Layout) (o : Option SysvHash) → length (sysv_bytes l o) ≡ sysv_room l o
length-sysv_bytes l None = refl
length-sysv_bytes l (Some h) =
    let a = length-sysv_table h.buckets (first_listed l) (map sysv_hash_of l.dynsyms) in
    let b = length-map l.dynsyms sysv_hash_of in
    let c = length-append (undefined_entries l.symbols (files_of l.groups)) (listed l.dynsyms) in
    let d = length-map l.dynsyms (λ (x : DynamicSymbol). x.symbol) in
    omega arith

length-gnu_bytes : (l : Layout) (o : Option GnuHash) → length (gnu_bytes l o) ≡ gnu_room l o
length-gnu_bytes l None = refl
length-gnu_bytes l (Some h) =
    let a = length-gnu_table (gnu_header h) (map gnu_hash_of l.dynsyms) in
    let b = length-map l.dynsyms gnu_hash_of in
    omega arith

pub sysv_length : (l : Layout) (f : File) → length (of_last l f (sysv_bytes l l.sysv_hash)) ≡ last_dynamic l f.role (sysv_room l l.sysv_hash)
sysv_length l f = length-if_both (needs_dynsym l.kind) (is_epilogue f.role) (sysv_bytes l l.sysv_hash) (sysv_room l l.sysv_hash) (length-sysv_bytes l l.sysv_hash)

pub gnu_length : (l : Layout) (f : File) → length (of_last l f (gnu_bytes l l.gnu_hash)) ≡ last_dynamic l f.role (gnu_room l l.gnu_hash)
gnu_length l f = length-if_both (needs_dynsym l.kind) (is_epilogue f.role) (gnu_bytes l l.gnu_hash) (gnu_room l l.gnu_hash) (length-gnu_bytes l l.gnu_hash)
