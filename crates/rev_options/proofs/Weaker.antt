-- What is asked for by words of no kind is asked for by any.
use Rattle.std.proofs.Common.{◌≡◌, ℕ, Bool, true, false, List, Option, None, Some, IfSome, Result, Ok, Err, IfOk}
use Rattle.rev_options.specs.Request.{IsOfWords, OpensBy, BringsBy, sought_key}
use Rattle.rev_options.specs.declared.Request.{Request}
use Rattle.rev_options.specs.declared.Request.TheVariants.{ImportWatch, ImportCsv, ImportState, Open, OpenWatch, OpenCsv}

-- what is no import is asked for by any words
pub no_import : {E : Type 0} (asks : Bool) (r : Result Request E) → IfOk r (IsOfWords false) → IfOk r (IsOfWords asks)
no_import asks (Ok (ImportWatch asked)) h = absurd (let e : false ≡ true = h in cc)
no_import asks (Ok (ImportCsv asked)) h = absurd (let e : false ≡ true = h in cc)
no_import asks (Ok (ImportState asked)) h = absurd (let e : false ≡ true = h in cc)
no_import asks (Ok other) h = tt
no_import asks (Err e) h = tt

-- and what is no opening
pub no_opening : {E : Type 0} (asks : Bool) (r : Result Request E) → IfOk r (OpensBy false) → IfOk r (OpensBy asks)
no_opening asks (Ok (Open asked)) h = absurd (let e : false ≡ true = h in cc)
no_opening asks (Ok (OpenWatch asked)) h = absurd (let e : false ≡ true = h in cc)
no_opening asks (Ok (OpenCsv asked)) h = absurd (let e : false ≡ true = h in cc)
no_opening asks (Ok other) h = tt
no_opening asks (Err e) h = tt

-- no key is to be gone
seeks_none : (seeks : Bool) (sought : Option (List ℕ)) → IfSome sought (λ key. false ≡ true) → IfSome sought (λ key. seeks ≡ true)
seeks_none seeks None h = tt
seeks_none seeks (Some key) h = absurd (let e : false ≡ true = h in cc)

-- and what is no import of an opening
pub brings_none : {E : Type 0} (brings seeks : Bool) (r : Result Request E) → IfOk r (BringsBy false false) → IfOk r (BringsBy brings seeks)
brings_none brings seeks (Ok (Open asked)) h = seeks_none seeks (sought_key asked.standing) h
brings_none brings seeks (Ok (OpenWatch asked)) h = absurd (let e : false ≡ true = h.0 in cc)
brings_none brings seeks (Ok (OpenCsv asked)) h = absurd (let e : false ≡ true = h.0 in cc)
brings_none brings seeks (Ok other) h = tt
brings_none brings seeks (Err e) h = tt
