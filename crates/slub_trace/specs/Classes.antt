-- The caches of a `kmalloc` line.
use Rattle.std.specs.Prelude.{ℕ, List, [], ◌∷◌, codes}

-- their names, in rising order of the classes
unfoldable pub class_names : List (List ℕ)
class_names =
    codes "kmalloc-8" ∷ codes "kmalloc-16" ∷ codes "kmalloc-32" ∷ codes "kmalloc-64"
    ∷ codes "kmalloc-96" ∷ codes "kmalloc-128" ∷ codes "kmalloc-192"
    ∷ codes "kmalloc-256" ∷ codes "kmalloc-512" ∷ codes "kmalloc-1k" ∷ codes "kmalloc-2k"
    ∷ codes "kmalloc-4k" ∷ codes "kmalloc-8k" ∷ []
