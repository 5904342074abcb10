-- The hasher that keys give.
use Rattle.pb_normal.specs.{contract.NameHasher.keyed, declared.hash_keys.HashKeys.HashKeys}
use Rattle.pb_normal.specs.declared.{hash_keys.HashKeys.TheVariants.Fixed, hash_keys.HashKeys.TheVariants.Random, names.hasher.NameHasher.NameHasher}
use Rattle.std.specs.{Hash.DefaultHasher.initial, RandomState.initial_hasher, declared.hash.DefaultHasher.DefaultHasher}

-- the SipHash that has these keys
abbrev pub sip_by : HashKeys → DefaultHasher
sip_by Fixed = initial
sip_by (Random state) = initial_hasher state

abbrev pub hasher_by : HashKeys → NameHasher
hasher_by keys = keyed (sip_by keys)
