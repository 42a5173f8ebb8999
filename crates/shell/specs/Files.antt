-- The files of a store that has one lane, and what a call works on outside.
use Rattle.std.specs.Prelude.{◌≡◌, List, [], ◌∷◌, map}
use Rattle.disk_core.specs.declared.store.LaneDisks.{LaneDisks}
use Rattle.disk_core.specs.declared.store.Store.{Store}

-- the even file of the first lane; a store with no lane has none, and its first area stands in
abbrev pub even_or : {D : Type 0} → D → List (LaneDisks D) → D
even_or other [] = other
even_or other (lane ∷ lanes) = lane.even

-- the log file of a store: the even one of its first lane
abbrev pub log_file : {D : Type 0} → Store D → D
log_file store = even_or store.area_a store.lanes.items

-- all files but the lanes' even ones are as they were
pub record KeepsOthers {D : Type 0} (old new : Store D) : Type 0 where
  pub area_a : new.area_a ≡ old.area_a
  pub area_b : new.area_b ≡ old.area_b
  pub odd : map (λ lane. lane.odd) new.lanes.items ≡ map (λ lane. lane.odd) old.lanes.items

-- what a run works on: the source of its script, and the log file
pub record Outside (S D : Type 0) : Type 0 where
  pub source : S
  pub disk : D

-- a source and a log file
abbrev pub outside_of : {S D : Type 0} → S → D → Outside S D
outside_of source disk = record { source = source; disk = disk }

-- a source and the log file of a store
abbrev pub outside_in : {S D : Type 0} → S → Store D → Outside S D
outside_in source store = outside_of source (log_file store)
