-- The codes of items and of the two maps.
-- Rule of this project: plain items and maps are values that a number can stand for, as the maps of std ask.
use Rattle.std.specs.Prelude.{ℕ, Bool, List, refl}
use Rattle.std.specs.Coded.{Coded, code_by, coded×, coded_ℕ, coded_list, coded_bool}
use Rattle.std.specs.FinMap as map
use Rattle.rev_items.specs.Plain.{PlainItem}
use Rattle.rev_model.specs.Chunk.{coded_chunk}
use Rattle.rev_model.specs.State.{Contents, Keys}

-- the code of an item: all its fields
abbrev pub coded_item : Coded PlainItem
coded_item =
    code_by (List ℕ × (List ℕ × (ℕ × (ℕ × (ℕ × (ℕ × (Bool × Bool)))))))
    (coded× (coded_list coded_ℕ) (coded× (coded_list coded_ℕ) (coded× coded_ℕ (coded× coded_ℕ (coded× coded_ℕ (coded× coded_ℕ (coded× coded_bool coded_bool)))))))
    (λ i. (i.key, (i.value, (i.flags, (i.moment, (i.time, (i.cas, (i.bits.fetched, i.bits.active))))))))
    (λ p. record { key = p.0; value = p.1.0; flags = p.1.1.0; moment = p.1.1.1.0; time = p.1.1.1.1.0; cas = p.1.1.1.1.1.0; bits = record { fetched = p.1.1.1.1.1.1.0; active = p.1.1.1.1.1.1.1 } })
    (λ _. refl)

-- the code of the map from chunks to items
abbrev pub coded_contents : Coded Contents
coded_contents = map.code coded_chunk coded_item

-- the code of the map from keys to chunks
abbrev pub coded_keys : Coded Keys
coded_keys = map.code (coded_list coded_ℕ) coded_chunk
