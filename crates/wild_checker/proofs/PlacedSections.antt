-- What is known of a section of the layout that was looked at, in a memory that follows the terms.
use Rattle.wild_checker.proofs.Common.{◌≡◌, ℕ, ◌%◌, true, refl, Option, None, Some, unwrap_or, WidthsHold, File, InputSection, Item, InputNumbers, Memory, World, Follows, RowsHaveFormulas, StubLaws, are_in_order, file_for, Loaded, first_cursor, changed_gap, first_doubt}
use Rattle.wild_references.specs.PlainLaws.{PlainInstructionsDo}
use Rattle.wild_checker.specs.Files.{site_of, find_file}
use Rattle.wild_checker.proofs.FileLemmas.{listed_by}
use Rattle.wild_checker.proofs.ValueLemmas.{Known}

pub record Laws : Type 0 where
  pub rows : RowsHaveFormulas
  pub widths : WidthsHold
  pub instructions : PlainInstructionsDo
  pub stubs : StubLaws

-- a section of the layout as its item, in a memory that follows the terms
pub record IsItem (k : Loaded) (f : File) (w : World) (m : Memory) (item : Item) (s : InputSection) : Type 0 where
  pub address : item.address ≡ s.address
  pub flags : item.flags ≡ s.flags
  pub bytes : item.bytes ≡ s.bytes
  pub relocations : item.relocations ≡ s.relocations
  pub small : InputNumbers s
  pub known : Known k f w
  pub follows : Follows w k.memory m
  pub pages : k.layout.page_size % 4096 ≡ 0 → w.base % 4096 ≡ 0

-- nothing of the section is doubted
pub record IsChecked (k : Loaded) (f : File) (s : InputSection) : Type 0 where
  pub order : are_in_order k.layout.machine 0 s.relocations ≡ true
  pub references : first_doubt k f s first_cursor 0 s.relocations ≡ None
  pub bytes : changed_gap k f s first_cursor s.relocations ≡ None

-- the same with the file in which a symbol is looked for
known_for : (k : Loaded) (f : File) (w : World) (o : Option ℕ) → Known k f w → Known k (file_for k f o) w
known_for k f w None n = n
known_for k f w (Some i) n = by (find_file k i) refl
  where
    by : (o : Option File) → find_file k i ≡ o → Known k (unwrap_or o f) w
    by None e = n
    by (Some g) e =
        let at = listed_by k.layout (site_of k.files i) g e in
        record { group = at.group; grouped = at.grouped; filed = at.filed; ordered = n.ordered; numbers = n.numbers; world = n.world; own = n.own; resolvers = n.resolvers; raw = n.raw }

pub item_for : (k : Loaded) (f : File) (w : World) (m : Memory) (item : Item) (s : InputSection) (o : Option ℕ) → IsItem k f w m item s → IsItem k (file_for k f o) w m item s
item_for k f w m item s o n = record { address = n.address; flags = n.flags; bytes = n.bytes; relocations = n.relocations; small = n.small; known = known_for k f w o n.known; follows = n.follows; pages = n.pages }
