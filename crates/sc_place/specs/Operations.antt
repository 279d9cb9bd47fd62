-- What a method does at a resource (RFC 9110, sections 9.3 and 10.2.1; RFC 5789).
use Rattle.std.specs.Prelude.{◌≡◌, ℕ, List, [], ◌∷◌, ◌++◌, codes, filter, Option, Some, None, is_some, Result, Ok, Err}
use Rattle.sc_place.specs.Resources.{LeadsTo, LeadsNowhere}
use Rattle.sc_place.specs.declared.resource.Resource.{Resource}
use Rattle.sc_place.specs.declared.resource.Resource.TheVariants as at
use Rattle.sc_place.specs.declared.method.Method.{Method}
use Rattle.sc_place.specs.declared.method.Method.TheVariants.{Get, Post, Put, Patch, Delete}
use Rattle.sc_place.specs.declared.operation.Operation.{Operation}
use Rattle.sc_place.specs.declared.operation.Operation.TheVariants as does
use Rattle.sc_place.specs.declared.operation.PlaceFault.{PlaceFault}
use Rattle.sc_place.specs.declared.operation.PlaceFault.TheVariants.{NoRoute, NoMethod, OutOfMemory}

-- names of methods are case-sensitive
unfoldable pub name_of : Method → List ℕ
name_of Get = codes "GET"
name_of Post = codes "POST"
name_of Put = codes "PUT"
name_of Patch = codes "PATCH"
name_of Delete = codes "DELETE"

-- what a method does at a resource, or none where the resource doesn't have it
abbrev pub operation_at : Resource → Method → Option Operation
operation_at at.Landing Get = Some does.Landing
operation_at at.Conformance Get = Some does.Conformance
operation_at at.Queryables Get = Some does.Queryables
operation_at at.Search Get = Some does.GetSearch
operation_at at.Search Post = Some does.PostSearch
operation_at at.Collections Get = Some does.ListCollections
operation_at at.Collections Post = Some does.AddCollection
operation_at (at.Collection id) Get = Some (does.ReadCollection id)
operation_at (at.Collection id) Delete = Some (does.DropCollection id)
operation_at (at.Items collection) Get = Some (does.SearchWithin collection)
operation_at (at.Items collection) Post = Some (does.AddItems collection)
operation_at (at.Item collection id) Get = Some (does.ReadItem collection id)
operation_at (at.Item collection id) Put = Some (does.ReplaceItem collection id)
operation_at (at.Item collection id) Patch = Some (does.PatchItem collection id)
operation_at (at.Item collection id) Delete = Some (does.DeleteItem collection id)
operation_at resource method = None

-- the methods that a resource has, in this order
abbrev pub methods_at : Resource → List Method
methods_at resource = filter (λ method. is_some (operation_at resource method)) (Get ∷ (Post ∷ (Put ∷ (Patch ∷ (Delete ∷ [])))))

-- the names with a comma and a blank between two of them
abbrev pub listed : List Method → List ℕ
listed [] = []
listed (m ∷ []) = name_of m
listed (m ∷ (n ∷ more)) = name_of m ++ 44 ∷ (32 ∷ listed (n ∷ more))

-- a target and the name of a method ask for that
abbrev pub AsksFor : List ℕ → List ℕ → Operation → Type 0
AsksFor target name operation =
    (resource : Resource) × (method : Method) × LeadsTo target resource × (name ≡ name_of method) × (operation_at resource method ≡ Some operation)

-- no method of that name is one of the resource's
abbrev pub Lacks : Resource → List ℕ → Type 0
Lacks resource name = (method : Method) → name ≡ name_of method → operation_at resource method ≡ None

-- the target leads to a resource that lacks the method, and has these
abbrev pub AsksInVain : List ℕ → List ℕ → List ℕ → Type 0
AsksInVain target name allow = (resource : Resource) × LeadsTo target resource × Lacks resource name × (allow ≡ listed (methods_at resource))

-- what is asked for, or the first that is wrong: the target, then the method
abbrev pub OperationOf : List ℕ → List ℕ → Result Operation PlaceFault → Type 0
OperationOf target name (Ok operation) = AsksFor target name operation
OperationOf target name (Err NoRoute) = LeadsNowhere target
OperationOf target name (Err (NoMethod allow)) = AsksInVain target name allow.now
OperationOf target name (Err OutOfMemory) = Unit {0}
