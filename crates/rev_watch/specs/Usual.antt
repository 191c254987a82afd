-- Fields in the order in which the server writes them.
use Rattle.std.specs.Prelude.{◌≡◌, ℕ, ℤ, List, [], ◌∷◌, ◌++◌, Some, Ok}
use Rattle.rev_script.specs.Number.{number}
use Rattle.rev_watch.specs.Field.{name_of}
use Rattle.rev_watch.specs.Fields.{value_in, number_in, signed_in, fields_of}
use Rattle.rev_watch.specs.Words.{words}
use Rattle.rev_watch.specs.declared.fault.Field.{Field}
use Rattle.rev_watch.specs.declared.fault.Field.TheVariants as fields

-- the first word of a text has this field's number, and this is the text behind it
pub record StandsFirst (limit : ℕ) (field : Field) (text : List ℕ) (n : ℕ) (rest : List ℕ) : Type 0 where
  pub value : List ℕ
  pub first : words text ≡ (name_of field ++ 61 ∷ value) ∷ words rest
  pub number_is : number limit value ≡ Some n

-- the only word of a text has this field's number
pub record StandsLast (limit : ℕ) (field : Field) (text : List ℕ) (n : ℕ) : Type 0 where
  pub value : List ℕ
  pub only : words text ≡ (name_of field ++ 61 ∷ value) ∷ []
  pub number_is : number limit value ≡ Some n

-- the words of a text tell of a look-up: of this key, and so on
pub record IsLookUp (text key outcome : List ℕ) (class : ℕ) (connection : ℤ) (size : ℕ) : Type 0 where
  pub ws : List (List ℕ)
  pub all : fields_of text ≡ Ok ws
  pub key_is : value_in fields.Key ws ≡ Ok key
  pub outcome_is : value_in fields.Status ws ≡ Ok outcome
  pub class_is : number_in 4294967295 fields.Clsid ws ≡ Ok class
  pub connection_is : signed_in fields.Cfd ws ≡ Ok connection
  pub size_is : number_in 4294967295 fields.Size ws ≡ Ok size

-- the words of a text tell of a storage command
pub record IsStore (text key outcome command : List ℕ) (ttl class : ℕ) (connection : ℤ) (size : ℕ) : Type 0 where
  pub ws : List (List ℕ)
  pub all : fields_of text ≡ Ok ws
  pub key_is : value_in fields.Key ws ≡ Ok key
  pub outcome_is : value_in fields.Status ws ≡ Ok outcome
  pub command_is : value_in fields.Cmd ws ≡ Ok command
  pub ttl_is : number_in 4294967295 fields.Ttl ws ≡ Ok ttl
  pub class_is : number_in 4294967295 fields.Clsid ws ≡ Ok class
  pub connection_is : signed_in fields.Cfd ws ≡ Ok connection
  pub size_is : number_in 4294967295 fields.Size ws ≡ Ok size
