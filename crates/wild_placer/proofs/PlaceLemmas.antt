-- What a call of the placer answers, by the answers of the writer and of the loader.
use Rattle.wild_placer.proofs.Common.{◌≡◌, ℕ, ◌≤◌, Bool, true, false, List, [], ◌∷◌, take, refl, sym, ap, subst, ◌∙◌, Option, Some, None, Result, Ok, Err, Layout, bytes, LoadFault, Memory, World, load, PlaceFault}
use Rattle.wild_types.specs.declared.fault.Error.{Error}
use Rattle.wild_types.specs.declared.fault.Fault.{Fault}
use Rattle.wild_types.specs.declared.fault.Fault.TheVariants as write_faults
use Rattle.wild_types.specs.Faults.{IsFirst, Refuses, RefusesWith}
use Rattle.wild_layout.specs.Faults.{errors}
use Rattle.wild_loader.specs.declared.fault.LoadFault.TheVariants as load_faults
use Rattle.wild_loader.specs.Outcome.{Fails as LoaderFails}
use Rattle.wild_placer.specs.declared.fault.PlaceFault.TheVariants as faults
use Rattle.wild_placer.specs.Place.{first_fault_or, layout_memory, Fails, write_fault_by, write_fault, load_fault, fault_of_prefix}
use Rattle.wild_placer.specs.Plain.{load_plain, load_by}
use Rattle.wild_placer.proofs.PrefixLemmas.{Agrees, load_agrees, loaded_by}
use Rattle.wild_placer.proofs.PlainLemmas.{plain_agrees}

value_of : {A E : Type 0} → A → Result A E → A
value_of d (Ok x) = x
value_of d (Err e) = d

pub same_ok : {A E : Type 0} (x y : A) → ◌≡◌ {A = Result A E} (Ok x) (Ok y) → x ≡ y
unfolding value_of
same_ok x y h = ap (value_of x) h

IsValue : {A E : Type 0} → Result A E → Type 0
IsValue (Ok x) = Unit {0}
IsValue (Err e) = ⊥

pub no_error : {A E : Type 0} (e : E) (x : A) → ◌≡◌ {A = Result A E} (Err e) (Ok x) → ⊥
unfolding IsValue
no_error {A} {E} e x h = let P : Result A E → Type 0 = λ r. IsValue r in subst P (sym h) tt

first_written : (e : Error) (es : List Error) (loaded : Result Memory LoadFault) → IsFirst e es → first_fault_or es loaded ≡ Err (faults.Write e)
first_written e [] loaded h = absurd h
first_written e (f ∷ fs) loaded h = ap (λ (x : Error). Err (faults.Write x)) (sym h)

refused_by : (f : Fault) (e : Error) (es : List Error) (loaded : Result Memory LoadFault) → RefusesWith f e es → Fails (write_fault_by f e) (first_fault_or es loaded)
refused_by write_faults.OutOfMemory e es loaded h = tt
refused_by (write_faults.MalformedLayout c i) e es loaded h = first_written e es loaded h
refused_by (write_faults.InsufficientAllocation p g a n) e es loaded h = first_written e es loaded h
refused_by (write_faults.ExcessiveAllocation p g a n) e es loaded h = first_written e es loaded h
refused_by (write_faults.UnsupportedRelocation n) e es loaded h = first_written e es loaded h
refused_by (write_faults.RecompileWithPic n) e es loaded h = first_written e es loaded h
refused_by (write_faults.MissingResolution w s) e es loaded h = first_written e es loaded h
refused_by (write_faults.UnknownSequence n) e es loaded h = first_written e es loaded h
refused_by (write_faults.IfuncAddend a) e es loaded h = first_written e es loaded h
refused_by (write_faults.NoThunk d) e es loaded h = first_written e es loaded h
refused_by (write_faults.ThunkOutOfRange d) e es loaded h = first_written e es loaded h
refused_by (write_faults.ThunkAddend a) e es loaded h = first_written e es loaded h
refused_by (write_faults.PltTooFar d) e es loaded h = first_written e es loaded h
refused_by (write_faults.TlsOutOfSegment v) e es loaded h = first_written e es loaded h
refused_by (write_faults.StaticTlsDesc s) e es loaded h = first_written e es loaded h
refused_by (write_faults.OutOfRange v) e es loaded h = first_written e es loaded h
refused_by (write_faults.BadFrameData w) e es loaded h = first_written e es loaded h
refused_by (write_faults.FrameOffsetOverflow v) e es loaded h = first_written e es loaded h
refused_by (write_faults.OverlappingSites b) e es loaded h = first_written e es loaded h

-- the writer's error is the layout's first fault
pub not_written : (l : Layout) (w : World) (e : Error) → Refuses e (errors l) → Fails (write_fault e) (layout_memory l w)
unfolding layout_memory
not_written l w e h = refused_by e.fault e (errors l) (load w (bytes l)) h

-- a layout without faults whose image is loaded
pub is_placed : (l : Layout) (w : World) (m : Memory) → errors l ≡ [] → load w (bytes l) ≡ Ok m → layout_memory l w ≡ Ok m
unfolding layout_memory
is_placed l w m none is = ap (λ (es : List Error). first_fault_or es (load w (bytes l))) none ∙ ap (λ (r : Result Memory LoadFault). first_fault_or [] r) is

not_loaded_by : (f : LoadFault) (r : Result Memory LoadFault) → LoaderFails f r → Fails (load_fault f) (first_fault_or [] r)
not_loaded_by load_faults.OutOfMemory r h = tt
not_loaded_by load_faults.NotElf r h = ap (λ (x : Result Memory LoadFault). first_fault_or [] x) h
not_loaded_by (load_faults.Cut o) r h = ap (λ (x : Result Memory LoadFault). first_fault_or [] x) h
not_loaded_by (load_faults.NoTable t) r h = ap (λ (x : Result Memory LoadFault). first_fault_or [] x) h
not_loaded_by (load_faults.UnknownDynamic n) r h = ap (λ (x : Result Memory LoadFault). first_fault_or [] x) h
not_loaded_by (load_faults.UnknownSymbol i) r h = ap (λ (x : Result Memory LoadFault). first_fault_or [] x) h
not_loaded_by (load_faults.NoAnswer v) r h = ap (λ (x : Result Memory LoadFault). first_fault_or [] x) h
not_loaded_by (load_faults.Unloaded a) r h = ap (λ (x : Result Memory LoadFault). first_fault_or [] x) h
not_loaded_by (load_faults.Wraps a) r h = ap (λ (x : Result Memory LoadFault). first_fault_or [] x) h
not_loaded_by (load_faults.Overlap a) r h = ap (λ (x : Result Memory LoadFault). first_fault_or [] x) h

-- one whose image is not loaded
pub not_loaded : (l : Layout) (w : World) (f : LoadFault) → errors l ≡ [] → LoaderFails f (load w (bytes l)) → Fails (load_fault f) (layout_memory l w)
unfolding layout_memory
not_loaded l w f none h = subst (λ (es : List Error). Fails (load_fault f) (first_fault_or es (load w (bytes l)))) (sym none) (not_loaded_by f (load w (bytes l)) h)

-- ---- by the first bytes of the image

-- the loading of a plain layout's image, or of any image
IsLoadedBy : Layout → World → Bool → Type 0
IsLoadedBy l w plain = plain ≡ true → load w (bytes l) ≡ load_plain l w (bytes l)

abbrev Front : Layout → World → Bool → ℕ → Result Memory LoadFault
Front l w plain n = load_by plain l w (take n (bytes l))

front_agrees : (l : Layout) (w : World) (plain : Bool) (n : ℕ) → 64 ≤ n → IsLoadedBy l w plain → Agrees (Front l w plain n) (load w (bytes l))
unfolding IsLoadedBy
front_agrees l w true n least by_segments = subst (λ (r : Result Memory LoadFault). Agrees (load_plain l w (take n (bytes l))) r) (sym (by_segments refl)) (plain_agrees l w n (bytes l) least)
front_agrees l w false n least by_segments = load_agrees w n (bytes l) least

-- what these bytes give is the memory
pub prefix_placed : (l : Layout) (w : World) (plain : Bool) (n : ℕ) (m : Memory) → errors l ≡ [] → 64 ≤ n → (plain ≡ true → load w (bytes l) ≡ load_plain l w (bytes l)) → load_by plain l w (take n (bytes l)) ≡ Ok m → layout_memory l w ≡ Ok m
unfolding IsLoadedBy
prefix_placed l w plain n m none least by_segments is = is_placed l w m none (loaded_by (Front l w plain n) (load w (bytes l)) (Ok m) (front_agrees l w plain n least by_segments) is (λ o e. no_error (load_faults.Cut o) m (sym e)))

some_same : {X : Type 0} (x y : X) → ◌≡◌ {A = Option X} (Some x) (Some y) → x ≡ y
some_same x y e = cc

-- or the fault, unless they end too early
pub prefix_not_loaded : (l : Layout) (w : World) (plain : Bool) (n : ℕ) (f : LoadFault) (g : PlaceFault) → errors l ≡ [] → 64 ≤ n → (plain ≡ true → load w (bytes l) ≡ load_plain l w (bytes l)) → LoaderFails f (load_by plain l w (take n (bytes l))) → fault_of_prefix f ≡ Some g → Fails g (layout_memory l w)
unfolding layout_memory IsLoadedBy
prefix_not_loaded l w plain n f g none least by_segments h is = by f h is
  where
    other : (f : LoadFault) → Front l w plain n ≡ Err f → ((o : ℕ) → ◌≡◌ {A = Result Memory LoadFault} (Err f) (Err (load_faults.Cut o)) → ⊥) → ◌≡◌ {A = Option PlaceFault} (Some (faults.Load f)) (Some g) → Fails g (layout_memory l w)
    other f h not_cut is =
        let same = loaded_by (Front l w plain n) (load w (bytes l)) (Err f) (front_agrees l w plain n least by_segments) h not_cut in
        let answer : layout_memory l w ≡ Err (faults.Load f) = ap (λ (es : List Error). first_fault_or es (load w (bytes l))) none ∙ ap (λ (r : Result Memory LoadFault). first_fault_or [] r) same in
        subst (λ (x : PlaceFault). Fails x (layout_memory l w)) (some_same (faults.Load f) g is) answer

    by : (f : LoadFault) → LoaderFails f (Front l w plain n) → fault_of_prefix f ≡ Some g → Fails g (layout_memory l w)
    by load_faults.OutOfMemory h is = subst (λ (x : PlaceFault). Fails x (layout_memory l w)) (some_same faults.OutOfMemory g is) tt
    by load_faults.NotElf h is = other load_faults.NotElf h (λ o e. cc) is
    by (load_faults.Cut o) h is = cc
    by (load_faults.NoTable t) h is = other (load_faults.NoTable t) h (λ o e. cc) is
    by (load_faults.UnknownDynamic k) h is = other (load_faults.UnknownDynamic k) h (λ o e. cc) is
    by (load_faults.UnknownSymbol i) h is = other (load_faults.UnknownSymbol i) h (λ o e. cc) is
    by (load_faults.NoAnswer v) h is = other (load_faults.NoAnswer v) h (λ o e. cc) is
    by (load_faults.Unloaded a) h is = other (load_faults.Unloaded a) h (λ o e. cc) is
    by (load_faults.Wraps a) h is = other (load_faults.Wraps a) h (λ o e. cc) is
    by (load_faults.Overlap a) h is = other (load_faults.Overlap a) h (λ o e. cc) is

-- the other way round
pub record HasMemory (l : Layout) (w : World) (m : Memory) : Type 0 where
  pub none : errors l ≡ []
  pub loaded : load w (bytes l) ≡ Ok m

pub has_memory : (l : Layout) (w : World) (m : Memory) → layout_memory l w ≡ Ok m → HasMemory l w m
unfolding layout_memory
has_memory l w m h = by (errors l) (load w (bytes l)) refl refl h
  where
    by : (es : List Error) (r : Result Memory LoadFault) → errors l ≡ es → load w (bytes l) ≡ r → first_fault_or es r ≡ Ok m → HasMemory l w m
    by (x ∷ es) r e f h = absurd (no_error (faults.Write x) m h)
    by [] (Err x) e f h = absurd (no_error (faults.Load x) m h)
    by [] (Ok x) e f h = record { none = e; loaded = f ∙ ap (λ (y : Memory). Ok y) (same_ok x m h) }
